-- Why a wait for the drain is refused.
use Rattle.std.specs.Prelude.{◌≡◌, ◌⊎◌, ◌==◌, if◌then◌else◌, Option, Some, None}
use Rattle.queue_core.specs.declared.fault.FreezeFault.{FreezeFault}
use Rattle.queue_core.specs.declared.fault.FreezeFault.TheVariants.{DepthFull, NotFrozen, WornOut}
use Rattle.queue_core.specs.Queue.{FreezerFacts, freeze_refusal}

-- why a wait is refused: a queue that isn't frozen never drains. Linux: blk_mq_freeze_queue_wait would sleep on
abbrev pub wait_refusal : FreezerFacts → Option FreezeFault
wait_refusal f = if f.depth == 0 then Some NotFrozen else None

-- some freezer refuses a freeze with this; no clause can name the freezer that the lock keeps
abbrev pub IsFreezeRefusal : FreezeFault → Type 0
IsFreezeRefusal why = (f : FreezerFacts) × (freeze_refusal f ≡ Some why)

-- why a freeze of a shared freezer may fail: its start is refused, or the wait after it, if others have thawed the queue meanwhile
abbrev pub CanRefuse : FreezeFault → Type 0
CanRefuse why = (why ≡ DepthFull) ⊎ (why ≡ WornOut) ⊎ (why ≡ NotFrozen)
