-- What a line comes to, and what it changes of a queue, whatever line it is.
use Rattle.std.proofs.Common.{◌≡◌, sym, subst, ℕ, ◌+◌, ◌≤◌, false, true, is_some, List}
use Rattle.std.proofs.lemmas.Bool.{false≢true}
use Rattle.script_meaning.specs.Queue.{Queue}
use Rattle.script_meaning.specs.Replies.{is_ok_of_request}
use Rattle.script_meaning.specs.Taken.{outcome, queue_after, accepted, accepted_in}
use Rattle.script_meaning.specs.declared.script.What.{What}
use Rattle.script_meaning.specs.declared.script.What.TheVariants.{Write}
use Rattle.script_meaning.specs.declared.reply.Outcome.{Outcome}
use Rattle.script_meaning.specs.declared.reply.Outcome.TheVariants.{Accepted, Drained, Replied}
use Rattle.script_meaning.specs.declared.reply.Request.{Request}
use Rattle.script_meaning.proofs.Cases.{Follows, IsOwn, IsOf, by_request, by_line}

pub follows : (q : Queue) (what : What) → Follows q (queue_after q what)
follows q what =
    let P : Outcome × Queue → Type 0 = λ x. Follows q x.1 in
    by_line P q what (λ came next own after. after) (λ r is. by_request P q r (λ came next own after. after) (λ next fits after. after))

-- what an accepted request is: the one that the line makes, within the disk
abbrev pub IsGood : Queue → What → Outcome → Type 0
IsGood q what (Accepted r) = IsOf what r × (r.start + r.count ≤ q.sectors)
IsGood q what (Drained reply) = is_ok_of_request reply ≡ false
IsGood q what (Replied reply) = is_ok_of_request reply ≡ false

own_good : (q : Queue) (what : What) (came : Outcome) → IsOwn came → IsGood q what came
own_good q what (Accepted r) own = absurd own
own_good q what (Drained reply) own = own
own_good q what (Replied reply) own = own

pub good : (q : Queue) (what : What) → IsGood q what (outcome q what)
good q what =
    let P : Outcome × Queue → Type 0 = λ x. IsGood q what x.0 in
    by_line P q what (λ came next own after. own_good q what came own)
    (λ r is. by_request P q r (λ came next own after. own_good q what came own) (λ next fits after. (is, fits)))

-- so an accepted request is the one that its line makes
pub accepted_is : (q : Queue) (what : What) (request : Request) → Accepted request ≡ outcome q what → IsOf what request × (request.start + request.count ≤ q.sectors)
accepted_is q what request came =
    let P : Outcome → Type 0 = λ o. IsGood q what o in
    subst P (sym came) (good q what)

write_good : (q : Queue) (start count : ℕ) (pattern : List ℕ) (came : Outcome) → IsGood q (Write start count pattern) came → is_some (accepted_in came) ≡ true → start + count ≤ q.sectors
write_good q start count pattern (Accepted r) good e = subst (λ (x : Request). x.start + x.count ≤ q.sectors) good.0 good.1
write_good q start count pattern (Drained reply) good e = absurd (false≢true e)
write_good q start count pattern (Replied reply) good e = absurd (false≢true e)

pub write_inside : (q : Queue) (start count : ℕ) (pattern : List ℕ) → is_some (accepted q (Write start count pattern)) ≡ true → start + count ≤ q.sectors
write_inside q start count pattern e = write_good q start count pattern (outcome q (Write start count pattern)) (good q (Write start count pattern)) e
