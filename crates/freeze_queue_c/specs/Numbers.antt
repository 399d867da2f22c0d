-- The numbers that only the library of the queue returns to C.
use Rattle.std.specs.Prelude.{ℕ, ◌+◌, Result, Ok, Err}
use Rattle.queue_limits.specs.FaultNumber as limit_faults
use Rattle.queue_core.specs.declared.fault.FreezeFault.{FreezeFault}
use Rattle.queue_core.specs.declared.biased.BiasedEntry.{BiasedEntry}
use Rattle.queue_core.specs.declared.biased.BiasedEntry.TheVariants as entries
use Rattle.queue_core.specs.Queue.{fault_number}
use Rattle.c_answers.specs.Numbers.{misuse_number, put_number}
use Rattle.freeze_queue_c.specs.declared.refusal.Refusal.{Refusal}
use Rattle.freeze_queue_c.specs.declared.refusal.Refusal.TheVariants.{OfLimits, OtherHardware, OfQueue, OfMisuse}

-- a refusal of limits is 24 more than its number, a refusal of the queue 16 more
abbrev pub refusal_number : Refusal → ℕ
refusal_number (OfLimits why) = 24 + limit_faults.number_of why
refusal_number OtherHardware = 29
refusal_number (OfQueue why) = 16 + fault_number why
refusal_number (OfMisuse why) = misuse_number why

-- a look that enters returns 0; a refused look returns 2 more than the result of its put, or 6 if the freezer has the tag in hand
abbrev pub look_number : BiasedEntry → ℕ
look_number entries.Entered = 0
look_number (entries.Refused put) = 2 + put_number put
look_number entries.InHand = 6

-- the same for a try, which returns 2 if the freezer has the tag in hand: the queue is frozen
abbrev pub tried_number : BiasedEntry → ℕ
tried_number entries.Entered = 0
tried_number (entries.Refused put) = 2 + put_number put
tried_number entries.InHand = 2

-- the number of a result of the queue, or of its refusal
abbrev pub queue_number : {A : Type 0} → (A → ℕ) → Result A FreezeFault → ℕ
queue_number number (Ok a) = number a
queue_number number (Err why) = 16 + fault_number why

-- 0, or the number of a refusal
abbrev pub done_number : Result (Unit {0}) Refusal → ℕ
done_number (Ok a) = 0
done_number (Err why) = refusal_number why
