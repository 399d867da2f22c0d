-- What a run has answered once every line is taken and nothing is owed.
use Rattle.std.proofs.Common.{◌≡◌, ◌∙◌, sym, ap, subst, ℕ, List, length, Option, Result, Ok, Err, IfOk}
use Rattle.std.proofs.Math.Seq.{take-length}
use Rattle.script_meaning.specs.Meaning.{after_lines, start_of}
use Rattle.script_meaning.specs.Script.{Meant}
use Rattle.in_flight.specs.Table.{AreJoined, IsUpTo, Stands, joined, owed_count}
use Rattle.blk_workers.specs.Progress.{IsRun}
use Rattle.in_flight.proofs.Tables.{all_there}
use Rattle.in_flight.proofs.Ends.{are_joined}

pub run_ended : (script : Meant) (replies : List (Option (List ℕ))) (disk : List (List ℕ)) (text : List ℕ) → Stands script replies disk → length replies ≡ length script.lines → owed_count replies ≡ 0
    → text ≡ joined replies → IsRun script text disk
run_ended script replies disk text stands lines none is =
    let up : IsUpTo script (length script.lines) replies disk = subst (λ n. IsUpTo script n replies disk) lines stands.up in
    record {
      told = subst (AreJoined script) (sym is) (are_joined script replies disk up none);
      left = all_there script (length script.lines) replies disk up none ∙ ap (λ ls. (after_lines (start_of script) ls).disk) (take-length script.lines);
    }

-- two facts about a result together
pub both_ok : {T E : Type 0} (r : Result T E) (P Q R : T → Type 0) → ((x : T) → P x → Q x → R x) → IfOk r P → IfOk r Q → IfOk r R
both_ok (Ok x) P Q R f p q = f x p q
both_ok (Err why) P Q R f p q = tt
