-- A line whose request is accepted counts that request, and does no more.
use Rattle.std.proofs.Common.{◌≡◌, refl, ap, ◌+◌, ◌≤◌, arith, true, false, cond, nat_lt, Some}
use Rattle.script_meaning.specs.Queue.{Queue, counted}
use Rattle.script_meaning.specs.Taken.{accepted, accepted_in, queue_after, request_counted, request_taken}
use Rattle.script_meaning.specs.declared.script.What.{What}
use Rattle.script_meaning.specs.declared.reply.Outcome.{Outcome}
use Rattle.script_meaning.specs.declared.reply.Outcome.TheVariants.{Accepted, Drained, Replied}
use Rattle.script_meaning.specs.declared.reply.Reply.TheVariants.{Again, PastEnd}
use Rattle.script_meaning.specs.declared.reply.Request.{Request}
use Rattle.script_meaning.proofs.Cases.{IsOwn, by_line, either}

abbrev CountsWhatItAccepts : Queue → Outcome × Queue → Type 0
CountsWhatItAccepts q came = (request : Request) → accepted_in came.0 ≡ Some request → came.1 ≡ request_counted q request

own_accepts_none : (came : Outcome) (request : Request) → IsOwn came → accepted_in came ≡ Some request → ⊥
own_accepts_none (Accepted r) request own is = own
own_accepts_none (Drained reply) request own is = cc
own_accepts_none (Replied reply) request own is = cc

counts_it : (q : Queue) (r : Request) → CountsWhatItAccepts q (Accepted r, request_counted q r)
counts_it q r request is =
    let same : r ≡ request = cc in
    ap (request_counted q) same

counts_a_request : (q : Queue) (r : Request) → CountsWhatItAccepts q (request_taken q r)
counts_a_request q r =
    either (CountsWhatItAccepts q) (nat_lt 0 q.depth) (Replied Again, record q { again = q.again + 1 })
    (cond (nat_lt q.sectors (r.start + r.count)) (Replied PastEnd, record q { eio = q.eio + 1 }) (Accepted r, request_counted q r))
    (λ request is. absurd (own_accepts_none (Replied Again) request refl is))
    (λ _. either (CountsWhatItAccepts q) (nat_lt q.sectors (r.start + r.count)) (Replied PastEnd, record q { eio = q.eio + 1 }) (Accepted r, request_counted q r)
    (λ request is. absurd (own_accepts_none (Replied PastEnd) request refl is))
    (λ _. counts_it q r))

pub accepted_is_counted : (q : Queue) (what : What) (request : Request) → accepted q what ≡ Some request → queue_after q what ≡ request_counted q request
accepted_is_counted q what = by_line (CountsWhatItAccepts q) q what (λ came next own follows request is. absurd (own_accepts_none came request own is)) (λ r of. counts_a_request q r)

-- and so it leaves the mode and the limits, and counts one
pub counted_mode : (q : Queue) (r : Request) → (request_counted q r).mode ≡ q.mode
counted_mode q r = elim r.writes as (λ b. (cond b (record q { writes = q.writes + 1 }) (record q { reads = q.reads + 1 })).mode ≡ q.mode) [ true ↦ refl | false ↦ refl ]

pub counted_one : (q : Queue) (r : Request) → counted (request_counted q r) ≤ counted q + 1
counted_one q r = elim r.writes as (λ b. counted (cond b (record q { writes = q.writes + 1 }) (record q { reads = q.reads + 1 })) ≤ counted q + 1) [ true ↦ omega arith | false ↦ omega arith ]
