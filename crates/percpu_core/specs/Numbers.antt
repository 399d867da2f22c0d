-- The numbers of the refusals.
use Rattle.std.specs.Prelude.{ℕ}
use Rattle.percpu_core.specs.declared.not_enabled.NotEnabled.{NotEnabled}
use Rattle.percpu_core.specs.declared.not_enabled.NotEnabled.TheVariants.{NoSuchActor, NoSuchSlot, WrongPhase, NothingHeld, MidCall, HeldFull, WornOut, NoSuchWord, BadAmount, StillHeld}

abbrev pub refusal_number : NotEnabled → ℕ
refusal_number NoSuchActor = 1
refusal_number NoSuchSlot = 2
refusal_number WrongPhase = 3
refusal_number NothingHeld = 4
refusal_number MidCall = 5
refusal_number HeldFull = 6
refusal_number WornOut = 7
refusal_number NoSuchWord = 8
refusal_number BadAmount = 9
refusal_number StillHeld = 10
