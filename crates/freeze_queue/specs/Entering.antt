-- The result of an attempt to enter, as a try at the gate, and how a wait to enter ends.
use Rattle.std.specs.Prelude.{◌≡◌, ℕ, zero, suc}
use Rattle.percpu_gate.specs.declared.tried.Tried.{Tried}
use Rattle.percpu_gate.specs.declared.tried.Tried.TheVariants.{Given, Refused}
use Rattle.percpu_gate.specs.declared.tried.Put.TheVariants.{NotLast}
use Rattle.percpu_core.specs.declared.view.PassView.{PassView}
use Rattle.percpu_core.specs.declared.pass_event.PassEvent.{PassEvent}
use Rattle.percpu_core.specs.declared.pass_event.PassEvent.TheVariants.{AddLive}
use Rattle.percpu_gate.specs.Rule.{Steps}
use Rattle.percpu_gate.specs.Steps.{TrySteps}
use Rattle.percpu_gate.specs.Calls.{is_refused, LiveTryFinds}
use Rattle.percpu_gate.specs.Seats.{GateFacts}
use Rattle.freeze_queue.specs.declared.enter.Enter.{Enter}
use Rattle.freeze_queue.specs.declared.enter.Enter.TheVariants.{Entered, Again}

-- Entered is a try that was given, Again a refused try; what a try finds doesn't say whether its put was the last
abbrev pub answered : Enter → Tried
answered Entered = Given
answered Again = Refused NotLast

-- a wait to enter ends with a try that found the queue live, by a seat to which a live gate had given no more references than the tag had at the call
abbrev pub EndsWithEntering : GateFacts → ℕ → PassView → Type 0
EndsWithEntering gate slot before = (seat : PassView) × (seat.live_given ≡ before.live_given) × LiveTryFinds gate slot seat Given

-- the steps of an attempt to enter on this slot, whose addition is this event: those of a try at the gate with the same result
abbrev pub EnterSteps : PassEvent → ℕ → Enter → Steps → Steps → Type 0
EnterSteps e slot entered old new = (answer : Tried) × (is_refused answer ≡ is_refused (answered entered)) × TrySteps e slot answer old new

-- this many refused attempts, one after another
abbrev pub RefusedSteps : ℕ → ℕ → Steps → Steps → Type 0
RefusedSteps slot zero old new = new ≡ old
RefusedSteps slot (suc n) old new = (behind : Steps) × RefusedSteps slot n old behind × EnterSteps AddLive slot Again behind new

-- the steps of a wait to enter: attempts that were refused, and the attempt that entered
abbrev pub WaitSteps : ℕ → Steps → Steps → Type 0
WaitSteps slot old new = (refused : ℕ) × (behind : Steps) × RefusedSteps slot refused old behind × EnterSteps AddLive slot Entered behind new
