-- The mode in which a gate counts.
use Rattle.std.specs.Prelude.{◌≡◌}
use Rattle.percpu_core.specs.declared.phase.Phase.{Phase}
use Rattle.percpu_core.specs.declared.phase.Phase.TheVariants.{LiveSlots, LiveAtomic, Dead}
use Rattle.percpu_core.specs.Phases.{live_in}
use Rattle.percpu_words.specs.declared.mode.Mode.{Mode}
use Rattle.percpu_words.specs.declared.mode.Mode.TheVariants.{Atomic, Slots}

-- a live gate is in the mode that is wanted; a dead gate, or a gate whose kill is under way, is revived in it
abbrev pub IsWanted : Mode → Phase → Type 0
IsWanted m LiveSlots = m ≡ Slots
IsWanted m LiveAtomic = m ≡ Atomic
IsWanted m _ = Unit {0}

-- the phase after a switch to this mode: a gate that is dead stays dead
abbrev pub switched_to : Mode → Phase → Phase
switched_to m Dead = Dead
switched_to m _ = live_in m
