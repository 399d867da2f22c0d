-- The laws of a slot's word, as lemmas for the crates above.
use Rattle.std.proofs.Common.{◌^◌, ◌<◌, arith}
use Rattle.std.specs.Prelude.{ℤ, pos, negsuc}
use Rattle.std.proofs.lemmas.Int.{ints}
use Rattle.percpu_words.specs.SlotWord.{closed_mark, IsDelta, delta_spelling, Spells}
use Rattle.percpu_words.specs.SlotWords.{SpellingIsTheSum, SpelledApart}

pub spelling_is_the_sum : SpellingIsTheSum
spelling_is_the_sum (pos n) h = (omega (arith, ints), omega (arith, ints))
spelling_is_the_sum (negsuc n) h = (omega (arith, ints), omega (arith, ints))

pub spelled_apart : SpelledApart
spelled_apart d e h g same = let a = (spelling_is_the_sum d h).0 in let b = (spelling_is_the_sum e g).0 in omega (arith, ints)

-- a closed slot spells no delta
pub closed_spells_none : (d : ℤ) → Spells closed_mark d → ⊥
closed_spells_none d s = let below = (spelling_is_the_sum d s.0).1 in omega arith

-- what spells a delta fits a word
pub spelling_fits : (d : ℤ) → IsDelta d → delta_spelling d < 2 ^ 64
spelling_fits d h = let below = (spelling_is_the_sum d h).1 in omega arith
