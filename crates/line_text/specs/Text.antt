-- The lines of a text, and the words of a line.
use Rattle.std.specs.Prelude.{ℕ, Bool, ◌==◌, ◌||◌, if◌then◌else◌, nat_lt, List, [], ◌∷◌, length, map, filter}
use Rattle.std.specs.List.{slice_split}
use Rattle.std.specs.Str.Lines.{strip_carriage_return}

-- what ends a line, and what separates words: a space or a tab
abbrev pub is_line_feed : ℕ → Bool
is_line_feed byte = byte == 10

abbrev pub is_blank : ℕ → Bool
is_blank byte = byte == 32 || byte == 9

-- the parts without the last one, if that is empty
abbrev pub without_empty_last : List (List ℕ) → List (List ℕ)
without_empty_last [] = []
without_empty_last (part ∷ []) = if length part == 0 then [] else part ∷ []
without_empty_last (part ∷ next ∷ parts) = part ∷ without_empty_last (next ∷ parts)

-- the lines of some bytes: the parts between line feeds, without an empty last one, and each without one carriage return at its end
abbrev pub lines_of : List ℕ → List (List ℕ)
lines_of bytes = map strip_carriage_return (without_empty_last (slice_split is_line_feed bytes))

abbrev pub is_not_empty : List ℕ → Bool
is_not_empty part = nat_lt 0 (length part)

-- the words of a line: what is between blanks
abbrev pub words_of : List ℕ → List (List ℕ)
words_of line = filter is_not_empty (slice_split is_blank line)
