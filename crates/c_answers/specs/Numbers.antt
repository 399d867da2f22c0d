-- The numbers that both libraries return to C.
use Rattle.std.specs.Prelude.{ℕ, Result, Ok, Err}
use Rattle.percpu_gate.specs.declared.tried.Put.{Put}
use Rattle.percpu_gate.specs.declared.tried.Put.TheVariants.{Last, NotLast}
use Rattle.c_answers.specs.declared.misuse.Misuse.{Misuse}
use Rattle.c_answers.specs.declared.misuse.Misuse.TheVariants as misuses

abbrev pub misuse_number : Misuse → ℕ
misuse_number misuses.Closed = 32
misuse_number misuses.Open = 33
misuse_number misuses.Slot = 34
misuse_number misuses.Size = 35
misuse_number misuses.Memory = 36
misuse_number misuses.InUse = 37
misuse_number misuses.Foreign = 38
misuse_number misuses.NoneWaits = 39
misuse_number misuses.Entered = 48
misuse_number misuses.NotEntered = 49
misuse_number misuses.Mode = 50
misuse_number misuses.Range = 51
misuse_number misuses.HeldFull = 64
misuse_number misuses.NotHeld = 65
misuse_number misuses.StillHeld = 66
misuse_number misuses.Amount = 67
misuse_number misuses.Word = 68
misuse_number misuses.Step = 69

abbrev pub put_number : Put → ℕ
put_number NotLast = 0
put_number Last = 1

-- the number of a result, or of a misuse
abbrev pub number_of : {A : Type 0} → (A → ℕ) → Result A Misuse → ℕ
number_of number (Ok a) = number a
number_of number (Err why) = misuse_number why
