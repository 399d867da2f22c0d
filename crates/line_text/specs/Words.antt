-- The words of a part of a line, if it has exactly this many.
use Rattle.std.specs.Prelude.{ℕ, Bool, true, List, [], ◌∷◌, Result, Ok, Err}
use Rattle.line_text.specs.declared.fault.Why.{Why}
use Rattle.line_text.specs.declared.fault.Why.TheVariants.{MissingWord, ExtraWord}

abbrev pub no_words : List (List ℕ) → Result Bool Why
no_words [] = Ok true
no_words (more ∷ words) = Err ExtraWord

abbrev pub one_word : List (List ℕ) → Result (List ℕ) Why
one_word [] = Err MissingWord
one_word (word ∷ []) = Ok word
one_word (word ∷ more ∷ words) = Err ExtraWord

abbrev pub two_words : List (List ℕ) → Result (List ℕ × List ℕ) Why
two_words [] = Err MissingWord
two_words (first ∷ []) = Err MissingWord
two_words (first ∷ second ∷ []) = Ok (first, second)
two_words (first ∷ second ∷ more ∷ words) = Err ExtraWord

abbrev pub three_words : List (List ℕ) → Result (List ℕ × List ℕ × List ℕ) Why
three_words [] = Err MissingWord
three_words (first ∷ []) = Err MissingWord
three_words (first ∷ second ∷ []) = Err MissingWord
three_words (first ∷ second ∷ third ∷ []) = Ok (first, second, third)
three_words (first ∷ second ∷ third ∷ more ∷ words) = Err ExtraWord
