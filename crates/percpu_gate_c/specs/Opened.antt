-- What an open handle leads to: the number of its gate, and the facts of the pass or the control.
use Rattle.std.specs.Prelude.{ℕ}
use Rattle.percpu_gate.specs.Seats.{PassFacts, ControlFacts}
use Rattle.c_answers.specs.declared.drawn_number.DrawnNumber.{DrawnNumber}

pub record PassOpened : Type 0 where
  pub number : DrawnNumber
  pub pass : PassFacts

pub record ControlOpened : Type 0 where
  pub number : DrawnNumber
  -- the passes that no handle has had yet
  pub waiting : ℕ
  pub control : ControlFacts
