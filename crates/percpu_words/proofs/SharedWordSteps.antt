-- The laws of the shared word, as lemmas for the crates above, and the same laws on the number alone.
use Rattle.std.proofs.Common.{◌≡◌, ℕ, ◌+◌, ◌-◌, ◌*◌, ◌/◌, ◌%◌, ◌^◌, ◌<◌, ◌≤◌, true, false, refl, arith}
use Rattle.std.specs.Prelude.{bit_and, bit_or}
use Rattle.std.specs.Int.Bits.{or_add_and}
use Rattle.std.proofs.lemmas.Nat.{and_mask}
use Rattle.std.proofs.lemmas.Nat.Bits.{and_pow}
use Rattle.percpu_words.specs.SharedWord.{spelling, parts, zero_mark, dead_mark}
use Rattle.percpu_words.specs.Words.{PartsOfSpelling, SpellingOfParts, AddingKeepsMarks, SubtractingKeepsMarks, SettingDead, ClearingMarks}

pub parts_of_spelling : PartsOfSpelling
parts_of_spelling s h = grind arith

pub spelling_of_parts : SpellingOfParts
spelling_of_parts w h = grind arith

pub adding : AddingKeepsMarks
adding s k h = grind arith

pub subtracting : SubtractingKeepsMarks
subtracting s k h g = grind arith

pub setting_dead : SettingDead
setting_dead s h = let both = or_add_and (spelling s) 4611686018427387904 in
    let bit : bit_and (spelling s) 4611686018427387904 ≡ (spelling s / 4611686018427387904) % 2 * 4611686018427387904 = and_pow (spelling s) 62 in grind arith

pub clearing_marks : ClearingMarks
clearing_marks s h = let low : bit_and (spelling s) 4611686018427387903 ≡ spelling s % 4611686018427387904 = and_mask (spelling s) 62 in grind arith

-- the same, said of the number's own parts
pub parts-add : (w k : ℕ) → w < 2 ^ 64 → (parts w).value + k < dead_mark → (w + k < 2 ^ 64) × (parts (w + k) ≡ record (parts w) { value = (parts w).value + k })
parts-add w k h g = (grind arith, grind arith)

pub parts-sub : (w k : ℕ) → w < 2 ^ 64 → k ≤ (parts w).value → (k ≤ w) × (parts (w - k) ≡ record (parts w) { value = (parts w).value - k })
parts-sub w k h g = (grind arith, grind arith)

pub parts-or_dead : (w : ℕ) → w < 2 ^ 64 → parts (bit_or w dead_mark) ≡ record (parts w) { dead = true }
parts-or_dead w h = let both = or_add_and w 4611686018427387904 in
    let bit : bit_and w 4611686018427387904 ≡ (w / 4611686018427387904) % 2 * 4611686018427387904 = and_pow w 62 in grind arith

pub parts-and_value : (w : ℕ) → parts (bit_and w (dead_mark - 1)) ≡ record (parts w) { zero = false; dead = false }
parts-and_value w = let low : bit_and w 4611686018427387903 ≡ w % 4611686018427387904 = and_mask w 62 in grind arith

-- a number is DEAD alone if its parts are
pub parts-dead : parts dead_mark ≡ record { zero = false; dead = true; value = 0 }
parts-dead = refl

pub parts-dead_zero : parts (dead_mark + zero_mark) ≡ record { zero = true; dead = true; value = 0 }
parts-dead_zero = refl
