-- What the memory of a gate holds.
use Rattle.std.specs.Prelude.{ℕ, Bool, true, false, ◌==◌, ◌&&◌, not, ℤ, pos, ◌+ℤ◌, List, [], ◌∷◌, length, slice_index_or, slice_set, if◌then◌else◌}
use Rattle.std.proofs.Common.{int_eq}
use Rattle.percpu_words.specs.SharedWord.{SharedWord}
use Rattle.percpu_words.specs.SlotWord.{closed_mark, delta_spelling}
use Rattle.percpu_core.specs.declared.slot.Slot.{Slot}
use Rattle.percpu_core.specs.declared.slot.Slot.TheVariants.{Closed, Open}
use Rattle.percpu_core.specs.declared.sizes.Sizes.{Sizes}

-- the shared word, the front, the slots and the guarded words
pub record Cells : Type 0 where
  pub shared : SharedWord
  pub front : ℕ
  pub slots : List Slot
  pub words : List ℕ

abbrev pub sizes_of : Cells → Sizes
sizes_of c = record { slots = length c.slots; words = length c.words }

abbrev pub is_open : Slot → Bool
is_open Closed = false
is_open (Open d) = true

-- what an open slot counts; a closed one counts nothing
abbrev pub delta : Slot → ℤ
delta Closed = pos 0
delta (Open d) = d

-- the sum of the deltas of the open slots
abbrev pub open_deltas : List Slot → ℤ
open_deltas [] = pos 0
open_deltas (s ∷ ss) = delta s +ℤ open_deltas ss

-- the number that encodes a slot whose delta is within its limit
abbrev pub slot_spelling : Slot → ℕ
slot_spelling Closed = closed_mark
slot_spelling (Open d) = delta_spelling d

-- the slot of that number
abbrev pub slot_at : List Slot → ℕ → Slot
slot_at slots i = slice_index_or slots i Closed

-- the slot is open with this delta
abbrev pub is_open_with : ℤ → Slot → Bool
is_open_with d Closed = false
is_open_with d (Open e) = int_eq e d

-- an exchange of the slot's delta for another: nothing changes if the slot doesn't have the expected delta
abbrev pub exchanged : ℕ → ℤ → ℤ → List Slot → List Slot
exchanged i d e slots = if is_open_with d (slot_at slots i) then slice_set slots i (Open e) else slots

-- the shared word is the mark DEAD and nothing else
abbrev pub is_dead_alone : SharedWord → Bool
is_dead_alone s = s.dead && not s.zero && (s.value == 0)
