use Rattle.std.proofs.Common.{◌+◌, ap, ◌∙◌}
use Rattle.percpu_gate.specs.ControlCalls.{after_revival, live_phase, to_open_of}
use Rattle.percpu_gate.proofs.ControlGrounds.{known_at_zero}
use Rattle.percpu_gate.proofs.control.Control.reinit.Goals as goal

pub returns-clause-revived : goal.returns-clause-revived
returns-clause-revived g c = let known = c.in_ok-refuse_unless_at_zero.ensures.zero in let zero = known_at_zero _ c.revive.result c.revive.ensures.base (ap (λ f. f.view.knows_zero) known) in
    c.revive.ensures.revived ∙ (λ j. record { gate = (known j).gate; view = after_revival (live_phase (known j)) (zero j) (known j).view; moves = (known j).moves + to_open_of (known j); wants = (known j).wants })
