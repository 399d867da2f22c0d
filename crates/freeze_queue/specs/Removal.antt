-- Why a removal is refused. The rest of a removal is defined in queue_core.
use Rattle.std.specs.Prelude.{Option, Some, None, Result, Ok, Err}
use Rattle.queue_core.specs.declared.fault.FreezeFault.{FreezeFault}
use Rattle.freeze_queue.specs.declared.remove.RemoveFault.{RemoveFault}

-- why a result is a refusal, if it is one
abbrev pub why_of : {A : Type 0} → Result A RemoveFault → Option FreezeFault
why_of (Ok x) = None
why_of (Err f) = Some f.why
