-- What a request that entered a queue leaves, and what a change of its limits leaves.
use Rattle.std.specs.Prelude.{◌≡◌, ◌+◌, ◌≤◌, ℕ, zero, suc, Bool, true, false, Option, Some, None, Result, Ok, Err, List}
use Rattle.queue_limits.specs.Bounds.{Bounds, AreAllowed}
use Rattle.queue_limits.specs.Pieces.{IsSplit}
use Rattle.percpu_core.specs.declared.view.PassView.{PassView}
use Rattle.percpu_gate.specs.declared.tried.Put.{Put}
use Rattle.percpu_gate.specs.declared.tried.Tried.TheVariants.{Given}
use Rattle.percpu_core.specs.declared.pass_event.PassEvent.TheVariants.{AddLive}
use Rattle.percpu_gate.specs.Rule.{Steps}
use Rattle.percpu_gate.specs.Steps.{PutSteps}
use Rattle.percpu_gate.specs.Calls.{LiveTryFinds}
use Rattle.freeze_queue.specs.declared.enter.Enter.TheVariants.{Entered, Again}
use Rattle.freeze_queue.specs.Entering.{EnterSteps, WaitSteps}
use Rattle.freeze_queue.specs.Readings.{AskSteps}
use Rattle.freeze_queue.specs.AtTheGate.{AreInForce}
use Rattle.freeze_queue.specs.Queue.{QueueFacts, TagFacts, FreezerFacts, after_freeze, after_look, after_set, after_thaw}

-- there are commands: the queue wasn't frozen, and memory wasn't refused
abbrev pub is_made : {A E : Type 0} → Result (Option A) E → Bool
is_made (Ok (Some made)) = true
is_made (Ok None) = false
is_made (Err why) = false

-- the tag has read limits that its queue's device allows, and these are the lengths of the pieces of the range by them
pub record IsCutByLimits (t : TagFacts) (start count : ℕ) (lengths : List ℕ) : Type 0 where
  pub limits : Bounds
  pub told : t.limits ≡ Some limits
  pub allowed : AreAllowed limits
  pub hardware : limits.hardware ≡ t.queue.hardware
  pub split : IsSplit limits start count lengths

-- a freezer that has frozen, waited for the drain, set and thawed once; the last thaw counts that drain
pub record IsChanged (limits : Bounds) (old new : FreezerFacts) : Type 0 where
  pub last : Put
  pub leaves : new ≡ after_thaw true (after_set limits (after_look true (after_freeze last old)))

-- an entered tag has read these limits in a call in which its seat knew all that it knows now, except what it read then; they were in force
abbrev pub WereReadInside : QueueFacts → TagFacts → Bounds → Type 0
WereReadInside q t limits = (before : PassView) × (t.seat ≡ record before { read = t.seat.read }) × AreInForce q.gate q.hardware before limits

-- the last reference that a live gate gave a tag was given by this try, on this slot
abbrev pub EndsWithOneTry : QueueFacts → ℕ → TagFacts → TagFacts → Type 0
EndsWithOneTry q slot old new = (before : PassView) × (old.seat.live_given ≤ before.live_given) × (new.seat.live_given ≡ before.live_given + 1) × LiveTryFinds q.gate slot before Given

-- the steps of `submit`: an attempt to enter, the loads of the limits once it is in, and a put on the same slot if memory was refused
abbrev pub SubmitSteps : {A E : Type 0} → ℕ → Result (Option A) E → Steps → Steps → Type 0
SubmitSteps slot (Ok None) old new = EnterSteps AddLive slot Again old new
SubmitSteps slot (Ok (Some made)) old new = (entered : Steps) × EnterSteps AddLive slot Entered old entered × AskSteps entered new
SubmitSteps slot (Err why) old new = (put : Put) × (entered : Steps) × (asked : Steps) × EnterSteps AddLive slot Entered old entered × AskSteps entered asked × PutSteps slot 1 put asked new

-- it entered on this slot, loaded the limits and left, this many times
abbrev pub RoundSteps : ℕ → ℕ → Steps → Steps → Type 0
RoundSteps slot zero old new = new ≡ old
RoundSteps slot (suc n) old new =
    (put : Put) × (behind : Steps) × (entered : Steps) × (asked : Steps)
    × RoundSteps slot n old behind × WaitSteps slot behind entered × AskSteps entered asked × PutSteps slot 1 put asked new

-- the steps of `enter_under`: after the last time it enters, it doesn't leave
abbrev pub UnderSteps : ℕ → Steps → Steps → Type 0
UnderSteps slot old new = (rounds : ℕ) × (behind : Steps) × (entered : Steps) × RoundSteps slot rounds old behind × WaitSteps slot behind entered × AskSteps entered new
