-- What the program answers to an input: a text, or the fault for which the input is refused.
use Rattle.std.specs.Prelude.{◌≡◌, ℕ, List, Result, Ok, Err}
use Rattle.blk_script.specs.Answer.{IsText}
use Rattle.script_overlap.specs.Overlap.{HasNoOverlap, IsReported}
use Rattle.blk_script.specs.Parsing.{meaning_of}
use Rattle.script_meaning.specs.Script.{Meant}
use Rattle.line_text.specs.declared.fault.ParseFault.{ParseFault}
use Rattle.blkq_run.specs.declared.fault.Fault.{Fault}
use Rattle.blkq_run.specs.declared.fault.Fault.TheVariants.{Parse, Overlap}

-- an input that means no script is refused for its fault, and a script whose requests overlap for its first overlap; for any other script the answer is the
-- text of its run on one thread
abbrev pub IsAnswerTo : Result Meant ParseFault → Result (List ℕ) Fault → Type 0
IsAnswerTo (Ok script) (Ok text) = HasNoOverlap script × IsText script text
IsAnswerTo (Ok script) (Err (Overlap pair)) = IsReported script pair
IsAnswerTo (Err fault) (Err (Parse told)) = told ≡ fault
IsAnswerTo meant answer = ⊥

-- this is the answer to an input, by what its bytes mean
unfoldable pub IsAnswer : List ℕ → Result (List ℕ) Fault → Type 0
IsAnswer input answer = IsAnswerTo (meaning_of input) answer

-- the input's answer is a text, and P holds of it
abbrev pub IsAnsweredBy : List ℕ → (List ℕ → Type 0) → Type 0
IsAnsweredBy input P = (text : List ℕ) × IsAnswer input (Ok text) × P text

-- the input is refused, and P holds of the fault
abbrev pub IsRefusedBy : List ℕ → (Fault → Type 0) → Type 0
IsRefusedBy input P = (fault : Fault) × IsAnswer input (Err fault) × P fault
