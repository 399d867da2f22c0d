-- How many requests of a script are accepted, one line further.
use Rattle.std.proofs.Common.{◌≡◌, ◌∙◌, sym, ap, ℕ, ◌+◌, ◌<◌, ◌≤◌, arith, Bool, true, false, cond, List, [], ◌∷◌, length, get_or, is_some}
use Rattle.std.proofs.lemmas.List.{take_all}
use Rattle.script_meaning.proofs.Numbers.{before_next}
use Rattle.script_meaning.specs.Queue.{Queue, start_queue}
use Rattle.script_meaning.specs.Requests.{queue_at, accepted_among, accepted_before, accepted_in_all}
use Rattle.script_meaning.specs.Script.{Meant}
use Rattle.script_meaning.specs.Taken.{accepted, accepted_in, outcome, queue_after}
use Rattle.script_meaning.specs.declared.script.Line.{Line}
use Rattle.script_meaning.specs.declared.reply.Outcome.{Outcome}

pub counted_so : (script : Meant) (i : ℕ) (line : Line) (queue : Queue) (came : Outcome) (said : Bool) (n m : ℕ) → i < length script.lines → line ≡ get_or script.lines i line
    → queue ≡ queue_at script i → came ≡ outcome queue line.what → said ≡ is_some (accepted_in came) → n ≡ accepted_before script i → m ≡ n + cond said 1 0
    → m ≡ accepted_before script (i + 1)
counted_so script i line queue came said n m lt at stands is says so_far more =
    more ∙ ap (λ k. k + cond said 1 0) so_far
    ∙ ap (λ b. accepted_before script i + cond b 1 0) (says ∙ ap (λ o. is_some (accepted_in o)) is ∙ ap (λ q. is_some (accepted q line.what)) stands)
    ∙ sym (before_next script i line lt at)

-- a line counts one at most, and so all lines count no more than they are
pub counts_one : (said : Bool) (n m : ℕ) → m ≡ n + cond said 1 0 → m ≤ n + 1
counts_one true n m is = omega (arith, is)
counts_one false n m is = omega (arith, is)

among_few : (q : Queue) (lines : List Line) → accepted_among q lines ≤ length lines
among_few q [] = omega arith
among_few q (line ∷ lines) = omega (arith, among_few (queue_after q line.what) lines, counts_one (is_some (accepted q line.what)) (accepted_among (queue_after q line.what) lines) _ (one_first (is_some (accepted q line.what)) (accepted_among (queue_after q line.what) lines)))
  where
    one_first : (said : Bool) (n : ℕ) → cond said 1 0 + n ≡ n + cond said 1 0
    one_first said n = omega arith

pub few_accepted : (script : Meant) → accepted_in_all script ≤ length script.lines
few_accepted script = among_few (start_queue script) script.lines

-- past the last line all are counted
pub all_counted : (script : Meant) (i n : ℕ) → length script.lines ≤ i → n ≡ accepted_before script i → n ≡ accepted_in_all script
all_counted script i n last is = is ∙ ap (accepted_among (start_queue script)) (take_all i script.lines last)
