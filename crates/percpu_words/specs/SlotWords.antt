-- Laws of the encoding of a slot, for every delta within its limit.
use Rattle.std.specs.Prelude.{◌≡◌, ◌<◌, ℤ, pos, ◌+ℤ◌}
use Rattle.percpu_words.specs.SlotWord.{closed_mark, middle, IsDelta, delta_spelling}

-- the encoding of a delta is the middle plus the delta, and is below the number of a closed slot
abbrev pub SpellingIsTheSum : Type 0
SpellingIsTheSum = (d : ℤ) → IsDelta d → (pos (delta_spelling d) ≡ pos middle +ℤ d) × (delta_spelling d < closed_mark)

-- two deltas with the same encoding are the same
abbrev pub SpelledApart : Type 0
SpelledApart = (d e : ℤ) → IsDelta d → IsDelta e → delta_spelling d ≡ delta_spelling e → d ≡ e
