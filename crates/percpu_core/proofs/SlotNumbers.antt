-- What the word of a slot says of the slot, and what the collecting takes off the shared word: for a gate whose memory is numbers.
use Rattle.std.proofs.Common.{◌≡◌, ℕ, ◌-◌, ◌<◌, ◌≤◌, Bool, true, false, nat_eq, refl, arith, ap, int_eq}
use Rattle.std.specs.Prelude.{ℤ, pos, negsuc, ◌-ℤ◌}
use Rattle.std.proofs.lemmas.Int.{ints}
use Rattle.std.proofs.lemmas.Bool.Decides.{nat_tests}
use Rattle.percpu_words.specs.SharedWord.{bias}
use Rattle.percpu_words.specs.SlotWord.{closed_mark, IsDelta, delta_spelling, Spells}
use Rattle.percpu_words.proofs.SlotSpellings.{spelling_is_the_sum, spelled_apart, closed_spells_none}
use Rattle.percpu_core.specs.declared.slot.Slot.{Slot}
use Rattle.percpu_core.specs.declared.slot.Slot.TheVariants.{Closed, Open}
use Rattle.percpu_core.specs.Cells.{delta, slot_spelling, is_open_with}
use Rattle.percpu_core.specs.ControlSteps.{moved_by}

-- a slot whose word spells a delta is open with it
pub open_as_spelled : (s : Slot) (d : ℤ) → IsDelta (delta s) → Spells (slot_spelling s) d → s ≡ Open d
open_as_spelled Closed d h w = absurd (closed_spells_none d w)
open_as_spelled (Open e) d h w = ap Open (spelled_apart e d h w.0 w.1)

-- a slot whose word is the mark of a closed one is closed
pub closed_as_marked : (s : Slot) → IsDelta (delta s) → slot_spelling s ≡ closed_mark → s ≡ Closed
closed_as_marked Closed h w = refl
closed_as_marked (Open e) h w = let below = (spelling_is_the_sum e h).1 in absurd (omega arith)

-- a slot whose word spells no delta is closed
pub closed_as_unspelled : (s : Slot) → IsDelta (delta s) → ((d : ℤ) → Spells (slot_spelling s) d → ⊥) → s ≡ Closed
closed_as_unspelled Closed h none = refl
closed_as_unspelled (Open e) h none = absurd (none e (h, refl))

not_same : (m n : ℕ) → n < m → nat_eq m n ≡ false
not_same m n h = grind (arith, nat_tests)

same_spelling : (e d : ℤ) → IsDelta e → IsDelta d → (b : Bool) → int_eq e d ≡ b → nat_eq (delta_spelling e) (delta_spelling d) ≡ b
same_spelling e d h g true is = let same = same_delta e d is in grind (arith, nat_tests)
  where
    same_delta : (e d : ℤ) → int_eq e d ≡ true → e ≡ d
    same_delta e d h = grind (arith, ints, nat_tests)
same_spelling e d h g false is = grind (arith, nat_tests)

-- an exchange that expects the word of a delta is won if and only if the slot is open with that delta
pub expected_word : (s : Slot) (d : ℤ) → IsDelta (delta s) → IsDelta d → nat_eq (slot_spelling s) (delta_spelling d) ≡ is_open_with d s
expected_word Closed d h g = not_same closed_mark (delta_spelling d) (spelling_is_the_sum d g).1
expected_word (Open e) d h g = same_spelling e d h g (int_eq e d) refl

-- the bias less the sum comes off the shared value at the collecting, and it is there
pub collecting_takes : (sum : ℤ) (value k : ℕ) → pos k ≡ pos bias -ℤ sum → bias ≤ moved_by sum value → (k ≤ value) × (value - k ≡ moved_by sum value - bias)
collecting_takes (pos n) value k is h = (omega (arith, ints), omega (arith, ints))
collecting_takes (negsuc n) value k is h = (omega (arith, ints), omega (arith, ints))
