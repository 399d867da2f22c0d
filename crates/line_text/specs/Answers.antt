-- The result of a call, compared with what the text means.
use Rattle.std.specs.Prelude.{◌≡◌, ℕ, Result, Ok, Err, IsOk}
use Rattle.line_text.specs.declared.fault.Why.{Why}
use Rattle.line_text.specs.declared.fault.LineFault.{LineFault}
use Rattle.line_text.specs.declared.fault.LineFault.TheVariants as line_fault
use Rattle.line_text.specs.declared.fault.ParseFault.{ParseFault}
use Rattle.line_text.specs.declared.fault.ScriptFault.{ScriptFault}
use Rattle.line_text.specs.declared.fault.ScriptFault.TheVariants as script_fault

-- a fault of a line's words, with the number of that line
abbrev pub at_line : {A : Type 0} → ℕ → Result A Why → Result A ParseFault
at_line number (Ok x) = Ok x
at_line number (Err why) = Err (record { line = number; why = why })

-- the result of a call, seen by `view`, is what the text says
abbrev pub Says : {A B E : Type 0} → (A → B) → Result A E → Result B E → Type 0
Says view (Ok x) said = said ≡ Ok (view x)
Says view (Err e) said = said ≡ Err e

-- the result of a call on one line is what the line says; memory is refused only for a line that says something
abbrev pub LineAnswers : {A : Type 0} → Result A LineFault → Result A Why → Type 0
LineAnswers (Ok x) said = said ≡ Ok x
LineAnswers (Err line_fault.Memory) said = IsOk said
LineAnswers (Err (line_fault.Refused why)) said = said ≡ Err why

-- the result of a call on a text, seen by `view`, is what the text means, unless memory was refused; it is never an overlap
abbrev pub Tells : {A B : Type 0} → (A → B) → Result A ScriptFault → Result B ParseFault → Type 0
Tells view (Ok x) meant = meant ≡ Ok (view x)
Tells view (Err script_fault.Memory) meant = Unit {0}
Tells view (Err (script_fault.Parse fault)) meant = meant ≡ Err fault
Tells view (Err (script_fault.Overlap pair)) meant = ⊥

abbrev pub Answers : {A : Type 0} → Result A ScriptFault → Result A ParseFault → Type 0
Answers answered meant = Tells (λ x. x) answered meant
