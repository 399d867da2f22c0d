-- Numbers as a word spells them, and the fault of a word that spells none.
use Rattle.std.specs.Prelude.{ℕ, ◌+◌, ◌-◌, ◌*◌, Bool, ◌&&◌, nat_le, if◌then◌else◌, List, length, fold, Result, Ok, Err}
use Rattle.std.specs.List.{list_all}
use Rattle.line_text.specs.declared.fault.Why.{Why}
use Rattle.line_text.specs.declared.fault.Why.TheVariants.{BadNumber, OutOfRange}

-- the `?` of the logic: the second step, if the first gave a value
infixl 10 ◌>>=◌
abbrev pub ◌>>=◌ : {A B E : Type 0} → Result A E → (A → Result B E) → Result B E
Ok x >>= f = f x
Err e >>= f = Err e

abbrev pub is_digit : ℕ → Bool
is_digit byte = nat_le 48 byte && nat_le byte 57

-- the number that decimal digits spell
abbrev pub decimal_value : List ℕ → ℕ
decimal_value digits = fold (λ number digit. 10 * number + (digit - 48)) 0 digits

-- a number is spelled by 1 to 20 digits
abbrev pub is_number : List ℕ → Bool
is_number word = (nat_le 1 (length word) && nat_le (length word) 20) && list_all is_digit word

-- the number from `low` to `high` that a word spells
abbrev pub number_in : ℕ → ℕ → List ℕ → Result ℕ Why
number_in low high word =
    if is_number word
    then (if nat_le low (decimal_value word) && nat_le (decimal_value word) high then Ok (decimal_value word) else Err OutOfRange)
    else Err BadNumber
