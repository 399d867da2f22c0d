-- The numbers of accepted requests, one line further.
use Rattle.std.proofs.Common.{zero, suc, ◌≡◌, ◌∙◌, ap, ℕ, ◌+◌, ◌<◌, ◌≤◌, arith, Bool, true, false, cond, List, [], ◌∷◌, take, length, Some, None, is_some}
use Rattle.script_meaning.specs.Queue.{Queue, start_queue}
use Rattle.script_meaning.specs.Requests.{accepted_at, accepted_among, accepted_before, accepted_in_all}
use Rattle.script_meaning.specs.Script.{Meant}
use Rattle.script_meaning.specs.Taken.{queue_after, accepted}
use Rattle.script_meaning.specs.declared.script.Line.{Line}
use Rattle.script_meaning.specs.declared.reply.Request.{Request}
use Rattle.script_meaning.proofs.Numbers.{accepted_there, in_order}
use Rattle.in_flight.specs.Requests.{IsAcceptedAt}

among_step : (q : Queue) (lines : List Line) (i : ℕ) → accepted_among q (take (suc i) lines) ≡ accepted_among q (take i lines) + cond (is_some (accepted_there q lines i)) 1 0
among_step q [] zero = omega arith
among_step q [] (suc i) = omega arith
among_step q (line ∷ lines) zero = omega arith
among_step q (line ∷ lines) (suc i) = omega (arith, among_step (queue_after q line.what) lines i)

among_at_most : (q : Queue) (lines : List Line) (i : ℕ) → accepted_among q (take i lines) ≤ accepted_among q lines
among_at_most q [] zero = omega arith
among_at_most q [] (suc i) = omega arith
among_at_most q (line ∷ lines) zero = omega arith
among_at_most q (line ∷ lines) (suc i) = omega (arith, among_at_most (queue_after q line.what) lines i)

among_grows : (q : Queue) (lines : List Line) (e l : ℕ) → e ≤ l → accepted_among q (take e lines) ≤ accepted_among q (take l lines)
among_grows q [] zero zero le = omega arith
among_grows q [] zero (suc l) le = omega arith
among_grows q [] (suc e) zero le = omega arith
among_grows q [] (suc e) (suc l) le = omega arith
among_grows q (line ∷ lines) zero l le = omega arith
among_grows q (line ∷ lines) (suc e) zero le = absurd (omega (arith, le))
among_grows q (line ∷ lines) (suc e) (suc l) le = omega (arith, among_grows (queue_after q line.what) lines e l (omega (arith, le)))

-- no more requests are accepted than there are lines
at_most_one : (b : Bool) → cond b 1 0 ≤ 1
at_most_one true = omega arith
at_most_one false = omega arith

few_among : (q : Queue) (lines : List Line) → accepted_among q lines ≤ length lines
few_among q [] = omega arith
few_among q (line ∷ lines) = omega (arith, at_most_one (is_some (accepted q line.what)), few_among (queue_after q line.what) lines)

pub few_accepted : (script : Meant) → accepted_in_all script ≤ length script.lines
few_accepted script = few_among (start_queue script) script.lines

pub before_grows : (script : Meant) (e l : ℕ) → e ≤ l → accepted_before script e ≤ accepted_before script l
before_grows script e l le = among_grows (start_queue script) script.lines e l le

before_step : (script : Meant) (i : ℕ) → accepted_before script (i + 1) ≡ accepted_before script i + cond (is_some (accepted_at script i)) 1 0
before_step script i = let next : i + 1 ≡ suc i = omega arith in ap (accepted_before script) next ∙ among_step (start_queue script) script.lines i

pub counts_request : (script : Meant) (i : ℕ) (request : Request) → accepted_at script i ≡ Some request → accepted_before script (i + 1) ≡ accepted_before script i + 1
counts_request script i request is = before_step script i ∙ ap (λ o. accepted_before script i + cond (is_some o) 1 0) is

pub counts_line : (script : Meant) (i : ℕ) → accepted_at script i ≡ None → accepted_before script (i + 1) ≡ accepted_before script i
counts_line script i is = let none : accepted_before script (i + 1) ≡ accepted_before script i + 0 = before_step script i ∙ ap (λ o. accepted_before script i + cond (is_some o) 1 0) is in omega (arith, none)

-- an accepted request's number is below the count of all
pub number_below : (script : Meant) (number position : ℕ) → IsAcceptedAt script number position → number < accepted_in_all script
number_below script number position at =
    let order = in_order script position (position + 1) (omega arith) at.accepted in
    let most = among_at_most (start_queue script) script.lines (position + 1) in
    omega (arith, at.count, order, most)
