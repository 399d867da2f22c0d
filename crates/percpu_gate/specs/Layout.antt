-- The places of a gate's words in its table.
use Rattle.std.specs.Prelude.{◌≡◌, ℕ, ◌+◌, ◌-◌, ◌*◌, ◌/◌, ◌<◌, List, length, slice_index}
use Rattle.percpu_words.specs.SharedWord.{spelling}
use Rattle.percpu_core.specs.Cells.{Cells, slot_at, slot_spelling}

-- 16 words are 128 bytes, on which nothing lies beside what is hot. The first 128 are kept free, since what the heap has before the block can share their line
abbrev pub shared_place : ℕ
shared_place = 16

-- the front and the guarded words, which passes read: two lines of their own, wherever the block begins
abbrev pub front_place : ℕ
front_place = 32

abbrev pub word_place : ℕ → ℕ
word_place k = 33 + k

-- a slot is written by its thread all the time, so it has 128 bytes to itself
abbrev pub slot_place : ℕ → ℕ
slot_place i = 64 + 16 * i

-- the slot at a place
abbrev pub slot_of : ℕ → ℕ
slot_of place = (place - 64) / 16

-- the words of a gate with this many slots, up to the end of the last one's 128 bytes
abbrev pub words_in_all : ℕ → ℕ
words_in_all slots = slot_place slots

-- the words encode this memory; the words between these are free
pub record Spell (ws : List ℕ) (c : Cells) : Type 0 where
  pub shared : slice_index ws shared_place ≡ spelling c.shared
  pub front : slice_index ws front_place ≡ c.front
  pub words : (k : ℕ) → k < length c.words → slice_index ws (word_place k) ≡ slice_index c.words k
  pub slots : (i : ℕ) → i < length c.slots → slice_index ws (slot_place i) ≡ slot_spelling (slot_at c.slots i)
