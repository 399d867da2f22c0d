-- The bytes of a line, and lines in one text, one after another.
use Rattle.std.specs.Prelude.{ℕ, List, [], ◌∷◌, take, drop}
use Rattle.in_flight.specs.declared.replies.Bytes.{Bytes}
use Rattle.in_flight.specs.declared.replies.Bytes.TheVariants.{Short, Long}

-- the bytes of a line, kept in place or in memory of their own
abbrev pub bytes_of : Bytes → List ℕ
bytes_of (Short bytes) = bytes
bytes_of (Long bytes) = bytes.value.items

-- the lines of a text, by their lengths
abbrev pub lines_of : List ℕ → List ℕ → List (List ℕ)
lines_of [] text = []
lines_of (n ∷ lengths) text = take n text ∷ lines_of lengths (drop n text)
