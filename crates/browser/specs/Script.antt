-- The answer to a script: a text, or the fault for which it is refused.
use Rattle.std.specs.Prelude.{◌≡◌, ℕ, List, Result, Ok, Err}
use Rattle.blk_script.specs.Answer.{IsText}
use Rattle.blk_script.specs.Parsing.{meaning_of}
use Rattle.line_text.specs.declared.fault.Overlap.{Overlap as Overlapping}
use Rattle.line_text.specs.declared.fault.ParseFault.{ParseFault}
use Rattle.line_text.specs.declared.fault.ScriptFault.{ScriptFault}
use Rattle.line_text.specs.declared.fault.ScriptFault.TheVariants.{Memory, Parse, Overlap}
use Rattle.script_meaning.specs.Script.{Meant}
use Rattle.script_overlap.specs.Overlap.{HasNoOverlap, IsReported}

-- an input that is no script is refused with its fault, and a script whose requests overlap with its first overlap; the answer to any other
-- script is the text of its run on one thread. Each answer may be replaced by a refusal of memory
abbrev pub IsAnswerTo : Result Meant ParseFault → Result (List ℕ) ScriptFault → Type 0
IsAnswerTo meant (Err Memory) = Unit {0}
IsAnswerTo (Ok script) (Ok text) = HasNoOverlap script × IsText script text
IsAnswerTo (Ok script) (Err (Overlap pair)) = IsReported script pair
IsAnswerTo (Err fault) (Err (Parse reported)) = reported ≡ fault
IsAnswerTo meant answer = ⊥

-- this is the answer to an input, by the meaning of its bytes
unfoldable pub IsAnswer : List ℕ → Result (List ℕ) ScriptFault → Type 0
IsAnswer input answer = IsAnswerTo (meaning_of input) answer

-- the input's answer is a text, and P holds of it
abbrev pub IsAnsweredBy : List ℕ → (List ℕ → Type 0) → Type 0
IsAnsweredBy input P = (text : List ℕ) × IsAnswer input (Ok text) × P text

-- the input is no script, and this is the line of its first fault
abbrev pub IsRefusedAt : List ℕ → ℕ → Type 0
IsRefusedAt input line = (fault : ParseFault) × IsAnswer input (Err (Parse fault)) × (line ≡ fault.line)

-- requests of the script overlap, and this is the later line of the first such pair
abbrev pub OverlapsAt : List ℕ → ℕ → Type 0
OverlapsAt input line = (pair : Overlapping) × IsAnswer input (Err (Overlap pair)) × (line ≡ pair.line)
