-- A replay that ends before its last event.
use Rattle.std.specs.Prelude.{◌≡◌, ℕ, Some, List, take, slice_get}
use Rattle.percpu_core.specs.declared.event.Event.{Event}
use Rattle.percpu_core.specs.declared.reply.Reply.{Reply}
use Rattle.percpu_core.specs.declared.replay_fault.ReplayFault.{ReplayFault}
use Rattle.percpu_core.specs.declared.replay_fault.ReplayFault.TheVariants.{Memory, Stuck}
use Rattle.percpu_core.specs.Machine.{State, refusal, Run}

abbrev pub fault_number : ReplayFault → ℕ
fault_number Memory = 1
fault_number (Stuck at why) = 2

-- refused memory changes nothing; otherwise the events before the refused one were taken, and the world is left there
abbrev pub Stops : State → List Event → ReplayFault → State → Type 0
Stops old events Memory new = new ≡ old
Stops old events (Stuck at why) new = (e : Event) × (replies : List Reply) × (slice_get events at ≡ Some e) × Run old (take at events) replies new × (refusal new e ≡ Some why)
