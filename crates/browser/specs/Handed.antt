-- The results of a call that the page gets: a text in the page's room, the length of the text, and the line of a fault.
use Rattle.std.specs.Prelude.{◌≡◌, ◌++◌, ℕ, List, drop, length, take}

-- a room after a text was copied to it: as much of the text as fits, and after the text the old contents
abbrev pub filled : List ℕ → List ℕ → List ℕ
filled text room = take (length room) text ++ drop (length text) room

-- the room has the text, as much as fits, and the size is the text's length
abbrev pub Hands : List ℕ → List ℕ → List ℕ → ℕ → Type 0
Hands text before after size = (after ≡ filled text before) × (size ≡ length text)
