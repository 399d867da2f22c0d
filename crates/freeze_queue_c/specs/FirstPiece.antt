-- The first piece of a range, for C.
use Rattle.std.specs.Prelude.{◌≡◌, ℕ, ◌^◌, ◌||◌, nat_eq, nat_le, if◌then◌else◌, Option, Some, None, Result, Ok, Err, List, ◌∷◌}
use Rattle.queue_limits.specs.Bounds.{Bounds}
use Rattle.queue_limits.specs.Pieces.{IsSplit}
use Rattle.c_answers.specs.declared.misuse.Misuse.{Misuse}
use Rattle.c_answers.specs.declared.misuse.Misuse.TheVariants.{Range}
use Rattle.freeze_queue_c.specs.declared.plain_limits.PlainLimits.{PlainLimits}
use Rattle.freeze_queue_c.specs.declared.refusal.Refusal.{Refusal}
use Rattle.freeze_queue_c.specs.Life.{or_misuse}
use Rattle.freeze_queue_c.specs.Numbers.{refusal_number}
use Rattle.freeze_queue_c.specs.PlainLimits.{bounds_of, limit_refusal}

-- a range starts below sector 2^33, and has at least one sector
abbrev pub range_misuse : ℕ → ℕ → Option Misuse
range_misuse start count = if nat_le (2 ^ 33) start || nat_eq count 0 then Some Range else None

abbrev pub piece_refusal : PlainLimits → ℕ → ℕ → Option Refusal
piece_refusal limits start count = or_misuse (limit_refusal limits) (range_misuse start count)

-- the piece is the first of the pieces of the range
abbrev pub Cuts : Option Refusal → Bounds → ℕ → ℕ → Result ℕ Refusal → Type 0
Cuts refusal bounds start count (Ok piece) = (refusal ≡ None) × ((others : List ℕ) × IsSplit bounds start count (piece ∷ others))
Cuts refusal bounds start count (Err why) = refusal ≡ Some why

-- the value written: the piece, or the old value if the call is refused
abbrev pub piece_written : Result ℕ Refusal → ℕ → ℕ
piece_written (Ok piece) there = piece
piece_written (Err why) there = there

abbrev pub piece_number : Result ℕ Refusal → ℕ
piece_number (Ok piece) = 0
piece_number (Err why) = refusal_number why

-- the same by the number that C gets
abbrev pub WritesFirstPiece : PlainLimits → ℕ → ℕ → ℕ → ℕ → ℕ → Type 0
WritesFirstPiece limits start count there here result =
    (answer : Result ℕ Refusal) × (result ≡ piece_number answer) × (here ≡ piece_written answer there) × Cuts (piece_refusal limits start count) (bounds_of limits) start count answer
