-- Integers as a line spells them: numbers that may have one `-` before their digits.
use Rattle.std.specs.Prelude.{ℕ, ℤ, pos, neg_ℤ, int_le, ◌==◌, Bool, ◌&&◌, if◌then◌else◌, List, drop, slice_index, Result, Ok, Err}
use Rattle.line_text.specs.Numbers.{◌>>=◌, decimal_value, is_number}
use Rattle.line_text.specs.declared.fault.Why.{Why}
use Rattle.line_text.specs.declared.fault.Why.TheVariants.{BadNumber, OutOfRange}

-- the word begins with a `-`, which is allowed if numbers are signed
abbrev pub is_negative : Bool → List ℕ → Bool
is_negative signed word = signed && (slice_index word 0 == 45)

-- the part of the word that has to be digits
abbrev pub digits_of : Bool → List ℕ → List ℕ
digits_of signed word = if is_negative signed word then drop 1 word else word

abbrev pub with_sign : Bool → ℕ → ℤ
with_sign negative value = if negative then neg_ℤ (pos value) else pos value

-- the integer that a word spells by 1 to 20 digits, after one `-` if it is signed
abbrev pub integer_of : Bool → List ℕ → Result ℤ Why
integer_of signed word =
    if is_number (digits_of signed word)
    then Ok (with_sign (is_negative signed word) (decimal_value (digits_of signed word)))
    else Err BadNumber

-- the integer, if it is from `low` to `high`
abbrev pub within : ℤ → ℤ → ℤ → Result ℤ Why
within low high number = if int_le low number && int_le number high then Ok number else Err OutOfRange

-- the integer from `low` to `high` that a word spells
abbrev pub integer_in : ℤ → ℤ → Bool → List ℕ → Result ℤ Why
integer_in low high signed word = integer_of signed word >>= within low high
