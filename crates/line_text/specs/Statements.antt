-- The statements of a text: its lines that aren't empty or comments, each with its number.
use Rattle.std.specs.Prelude.{ℕ, ◌+◌, ◌==◌, Bool, true, if◌then◌else◌, nat_lt, List, [], ◌∷◌, drop, length, slice_index, Result, Ok, Err}
use Rattle.std.specs.Str.{is_utf8}
use Rattle.line_text.specs.Answers.{at_line}
use Rattle.line_text.specs.Numbers.{◌>>=◌}
use Rattle.line_text.specs.Text.{lines_of, words_of}
use Rattle.line_text.specs.declared.fault.ParseFault.{ParseFault}
use Rattle.line_text.specs.declared.fault.Why.{Why}
use Rattle.line_text.specs.declared.fault.Why.TheVariants.{NotUtf8, TooLong}

-- a line with no words, or with a first word that begins with `#`, says nothing
abbrev pub says_nothing : List (List ℕ) → Bool
says_nothing [] = true
says_nothing (first ∷ words) = slice_index first 0 == 35

-- the statements, by their words; a line that isn't UTF-8 has a fault, whatever is on it
abbrev pub statements : ℕ → List (List ℕ) → List (ℕ × Result (List (List ℕ)) Why)
statements number [] = []
statements number (line ∷ lines) =
    if is_utf8 line
    then (if says_nothing (words_of line) then statements (number + 1) lines else (number, Ok (words_of line)) ∷ statements (number + 1) lines)
    else (number, Err NotUtf8) ∷ statements (number + 1) lines

-- what is left of a text: the statements, and the number of the line after the last
pub record Unread : Type 0 where
  pub said : List (ℕ × Result (List (List ℕ)) Why)
  pub end : ℕ

-- a text of which nothing was read; a text of more than 1,048,576 bytes is refused at its first line
abbrev pub unread : List ℕ → Result Unread ParseFault
unread text =
    if nat_lt 1048576 (length text) then Err (record { line = 1; why = TooLong })
    else Ok (record { said = statements 1 (lines_of text); end = length (lines_of text) + 1 })

-- the words of the first of these statements, with its number; if there is none, a fault of the line after the last
abbrev pub first_said : Why → ℕ → List (ℕ × Result (List (List ℕ)) Why) → Result (ℕ × List (List ℕ)) ParseFault
first_said missing end [] = Err (record { line = end; why = missing })
first_said missing end (said ∷ more) = at_line said.0 said.1 >>= λ words. Ok (said.0, words)

abbrev pub first_or : Why → Unread → Result (ℕ × List (List ℕ)) ParseFault
first_or missing text = first_said missing text.end text.said

-- what is left after the first statement
abbrev pub after_first : Unread → Unread
after_first text = record text { said = drop 1 text.said }
