-- What is read after a change of limits.
use Rattle.std.specs.Prelude.{◌≡◌}
use Rattle.queue_limits.specs.Bounds.{Bounds}
use Rattle.percpu_core.specs.declared.view.PassView.{PassView}
use Rattle.freeze_queue.specs.AtTheGate.{AreInForce, Stood}
use Rattle.freeze_queue.specs.Queue.{QueueFacts, FreezerFacts}

-- limits that a tag read were in force at a moment; and if the freezer was still in this state then, they are the limits that were set
abbrev pub AreWhatWasSet : QueueFacts → FreezerFacts → Bounds → Bounds → Type 0
AreWhatWasSet q f set told = (seat : PassView) × (found : AreInForce q.gate q.hardware seat told) × (Stood f found.moment.views → told ≡ set)
