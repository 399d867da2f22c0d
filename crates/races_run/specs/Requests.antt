-- What the arguments ask for.
use Rattle.std.specs.Prelude.{◌≡◌, ℕ, if◌then◌else◌, List, [], ◌∷◌, Option, None, Some, codes, Ok}
use Rattle.std.specs.Str.{bytes_eq}
use Rattle.line_text.specs.Numbers.{number_in}
use Rattle.races_run.specs.declared.writing.Form.{Form}
use Rattle.races_run.specs.declared.writing.Form.TheVariants.{Outcomes, Summary}

-- without arguments there is no bound; `--states` with a number of 64 bits from 1, spelled as a race spells its numbers, sets the bound
abbrev pub Bounds : List (List ℕ) → Option ℕ → Type 0
Bounds [] most = most ≡ None
Bounds (word ∷ number ∷ []) (Some most) = (word ≡ codes "--states") × (number_in 1 18446744073709551615 number ≡ Ok most)
Bounds words most = ⊥

-- the form that the first argument asks for, and the arguments after it; without such a word the outcomes are written
abbrev pub form_in : List (List ℕ) → Form × List (List ℕ)
form_in [] = (Outcomes, [])
form_in (word ∷ words) = if bytes_eq word (codes "--summary") then (Summary, words) else (Outcomes, word ∷ words)

-- the arguments are a form, and then the bound
abbrev pub Asks : List (List ℕ) → Form → Option ℕ → Type 0
Asks words form most = ((form_in words).0 ≡ form) × Bounds (form_in words).1 most

-- the arguments ask for something, with a bound or without
abbrev pub AsksSomething : List (List ℕ) → Type 0
AsksSomething words = (form : Form) × (most : Option ℕ) × Asks words form most
