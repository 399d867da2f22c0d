-- The answer to what was read is the answer to the whole input.
use Rattle.std.proofs.Common.{◌≡◌, ℕ, ◌≤◌, List, Option, IfSome, Result, Ok, Err, length, take, arith}
use Rattle.std.proofs.lemmas.Bool.Decides.{nat_tests}
use Rattle.blk_script.specs.Parsing.{meaning_of}
use Rattle.script_meaning.specs.Script.{Meant}
use Rattle.line_text.specs.declared.fault.ParseFault.{ParseFault}
use Rattle.line_text.specs.declared.fault.Why.TheVariants.{TooLong}
use Rattle.blkq_run.proofs.Cutting.{of_the_whole}
use Rattle.blkq_run.specs.Answer.{IsAnswerTo, IsAnswer, IsAnsweredBy}
use Rattle.blkq_run.specs.declared.fault.Fault.{Fault}
use Rattle.blkq_run.specs.declared.run.TheConstants.{MOST_READ}

too_long : (input : List ℕ) → MOST_READ ≤ length input → meaning_of input ≡ Err (record { line = 1; why = TooLong })
too_long input long = grind (arith, nat_tests)

meant_of_the_whole : (known : Option (List ℕ)) (read : List ℕ) (P : Result Meant ParseFault → Type 0)
    → IfSome known (λ input. read ≡ take MOST_READ input) → P (meaning_of read) → IfSome known (λ input. P (meaning_of input))
meant_of_the_whole known read P is holds = of_the_whole meaning_of (Err (record { line = 1; why = TooLong })) MOST_READ too_long known read P is holds

-- what was read is refused as the whole input is
pub refused_input : (known : Option (List ℕ)) (read : List ℕ) (fault : Fault)
    → IfSome known (λ input. read ≡ take MOST_READ input) → IsAnswer read (Err fault) → IfSome known (λ input. IsAnswer input (Err fault))
unfolding IsAnswer
refused_input known read fault is refused = meant_of_the_whole known read (λ meant. IsAnswerTo meant (Err fault)) is refused

-- what was read is answered as the whole input is
pub answered_input : (known : Option (List ℕ)) (read text : List ℕ) (P : List ℕ → Type 0)
    → IfSome known (λ input. read ≡ take MOST_READ input) → IsAnswer read (Ok text) → P text → IfSome known (λ input. IsAnsweredBy input P)
unfolding IsAnswer
answered_input known read text P is answered holds =
    meant_of_the_whole known read (λ meant. (answer : List ℕ) × IsAnswerTo meant (Ok answer) × P answer) is (text, answered, holds)
