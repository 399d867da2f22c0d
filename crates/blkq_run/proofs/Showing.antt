-- What the replay of what was read shows is what the replay of the whole input shows.
use Rattle.std.proofs.Common.{◌≡◌, ℕ, ◌≤◌, List, Option, IfSome, IsOkAnd, Result, Ok, Err, length, take, arith, sym, subst}
use Rattle.std.proofs.lemmas.Bool.Decides.{nat_tests}
use Rattle.line_text.specs.Answers.{Answers}
use Rattle.line_text.specs.declared.fault.ParseFault.{ParseFault}
use Rattle.line_text.specs.declared.fault.ScriptFault.{ScriptFault}
use Rattle.line_text.specs.declared.fault.ScriptFault.TheVariants.{Memory, Parse, Overlap}
use Rattle.line_text.specs.declared.fault.Why.TheVariants.{TooLong}
use Rattle.gate_replay.specs.Shown.{Shown, shown_by}
use Rattle.blkq_run.proofs.Cutting.{of_the_whole}
use Rattle.blkq_run.specs.Faults.{IsOfReplay, fault_of_script, refusal_of}
use Rattle.blkq_run.specs.declared.run.TheConstants.{MOST_READ}

too_long : (input : List ℕ) → MOST_READ ≤ length input → shown_by input ≡ Err (record { line = 1; why = TooLong })
unfolding shown_by
too_long input long = grind (arith, nat_tests)

shown_of_the_whole : (known : Option (List ℕ)) (read : List ℕ) (P : Result Shown ParseFault → Type 0)
    → IfSome known (λ input. read ≡ take MOST_READ input) → P (shown_by read) → IfSome known (λ input. P (shown_by input))
shown_of_the_whole known read P is holds = of_the_whole shown_by (Err (record { line = 1; why = TooLong })) MOST_READ too_long known read P is holds

-- what was read is refused as the whole input is
pub refused_schedule : (known : Option (List ℕ)) (read : List ℕ) (fault : ScriptFault)
    → IfSome known (λ input. read ≡ take MOST_READ input) → Answers (Err fault) (shown_by read)
    → IfSome (refusal_of (fault_of_script fault)) (λ refusal. IfSome known (λ input. shown_by input ≡ Err refusal))
refused_schedule known read Memory is told = tt
refused_schedule known read (Parse fault) is told = shown_of_the_whole known read (λ shown. shown ≡ Err fault) is told
refused_schedule known read (Overlap pair) is told = absurd told

-- a fault of a replay is one that a replay can have
pub kept_kinds : (fault : ScriptFault) (shown : Result Shown ParseFault) → Answers (Err fault) shown → IsOfReplay (fault_of_script fault)
kept_kinds Memory shown told = tt
kept_kinds (Parse fault) shown told = tt
kept_kinds (Overlap pair) shown told = absurd told

-- what was read shows what the whole input shows
pub shown_schedule : (known : Option (List ℕ)) (read : List ℕ) (shown : Shown) (P : Shown → Type 0)
    → IfSome known (λ input. read ≡ take MOST_READ input) → shown_by read ≡ Ok shown → P shown → IfSome known (λ input. IsOkAnd (shown_by input) P)
shown_schedule known read shown P is answered holds =
    shown_of_the_whole known read (λ r. IsOkAnd r P) is (subst (λ (r : Result Shown ParseFault). IsOkAnd r P) (sym answered) holds)
