-- How a count of failures grows, and when it is treated as grown.
use Rattle.std.specs.Prelude.{◌≡◌, ◌==◌, ℕ, ◌+◌, ◌-◌, ◌^◌, ◌<◌, ◌≤◌, ◌⊎◌, if◌then◌else◌, Bool, true, false, ◌&&◌, List, length, nat_lt, Result, Ok, Err}
use Rattle.std.specs.IoError.{error_kind}
use Rattle.std.specs.declared.io.Error.{Error}
use Rattle.std.specs.declared.io.ErrorKind.{ErrorKind}
use Rattle.std.specs.declared.io.ErrorKind.TheVariants.{Interrupted}
use Rattle.counted_io.specs.Tally.{Tally}

-- the maximum of u64, at which a count stays
abbrev pub greatest : ℕ
greatest = 2 ^ 64 - 1

-- the count after one more failure
abbrev pub one_more : ℕ → ℕ
one_more n = if n == greatest then n else n + 1

-- the same, if there was a failure
abbrev pub one_more_if : Bool → ℕ → ℕ
one_more_if failed n = if failed then one_more n else n

-- the count grew, or stays at its maximum and is treated as grown
abbrev pub HasGrown : ℕ → ℕ → Type 0
HasGrown old new = (old < new) ⊎ (new ≡ greatest)

-- the reader or writer has failed in between
abbrev pub HasFailed : {T : Type 0} → Tally T → Tally T → Type 0
HasFailed old new = HasGrown old.failures new.failures

-- a result of `write` that is a failure: an error, or 0 if there was a byte to take
abbrev pub is_failed_write : {E : Type 0} → Result ℕ E → List ℕ → Bool
is_failed_write (Ok taken) bytes = (taken == 0) && nat_lt 0 (length bytes)
is_failed_write (Err e) bytes = true

-- an error of this kind isn't an interruption, so retrying doesn't help
abbrev pub lasts : ErrorKind → Bool
lasts Interrupted = false
lasts kind = true

abbrev pub is_lasting : Error → Bool
is_lasting e = lasts (error_kind e)

-- a result of `read`, or of `write`, that is a break: an error other than an interruption, or 0 if there was a byte to take
abbrev pub breaks_read : Result ℕ Error → Bool
breaks_read (Ok taken) = false
breaks_read (Err e) = is_lasting e

abbrev pub breaks_write : Result ℕ Error → List ℕ → Bool
breaks_write (Ok taken) bytes = (taken == 0) && nat_lt 0 (length bytes)
breaks_write (Err e) bytes = is_lasting e

-- the interruptions in a row after this result of `read` or `write`
abbrev pub row_after : Result ℕ Error → ℕ → ℕ
row_after (Ok taken) n = 0
row_after (Err e) n = if is_lasting e then 0 else one_more n

-- the reader or writer broke in between, whether or not it had broken before
abbrev pub Breaks : {T : Type 0} → Tally T → Tally T → Type 0
Breaks old new = old.breaks < new.breaks

-- the reader or writer failed this often in between, unless the count is at its maximum
abbrev pub FailedTimes : {T : Type 0} → ℕ → Tally T → Tally T → Type 0
FailedTimes n old new = new.failures < greatest → old.failures + n ≤ new.failures

-- there was a reason to give up: it broke, or the last results in between were as many interruptions in a row as a call is tried
abbrev pub GivesUp : {T : Type 0} → ℕ → Tally T → Tally T → Type 0
GivesUp tries old new = HasGrown old.breaks new.breaks ⊎ (FailedTimes tries old new × (tries ≤ new.in_row))

-- the condition on a status: it is 4 if the reader or the writer broke
abbrev pub IsFourIfBroken : {R W : Type 0} → Tally R → Tally R → Tally W → Tally W → ℕ → Type 0
IsFourIfBroken reader read writer written status = (Breaks reader read → status ≡ 4) × (Breaks writer written → status ≡ 4)
