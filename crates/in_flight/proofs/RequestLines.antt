-- What a request is answered, at its line.
use Rattle.std.proofs.Common.{◌≡◌, ◌∙◌, sym, ap, subst, ℕ, true, List, get_or, Some, Result, Ok, Err, IfOk, is_some}
use Rattle.std.specs.List.{slice_get}
use Rattle.std.specs.Option.{option_map_or}
use Rattle.std.proofs.lemmas.Bool.{false≢true}
use Rattle.std.proofs.lemmas.Option.{get_or_from_slice_get}
use Rattle.queue_limits.specs.Bounds.{Bounds}
use Rattle.ram_disk.specs.Sectors.{sectors_of}
use Rattle.script_meaning.specs.Meaning.{State, IsAnswered, IsReplyTo, IsReply}
use Rattle.script_meaning.specs.Requests.{state_at}
use Rattle.script_meaning.specs.Script.{Meant}
use Rattle.script_meaning.specs.Taken.{outcome, accepted, accepted_in}
use Rattle.script_meaning.specs.declared.script.Line.{Line}
use Rattle.script_meaning.specs.declared.script.What.{What}
use Rattle.script_meaning.specs.declared.script.What.TheVariants.{Read, Write}
use Rattle.script_meaning.specs.declared.reply.Outcome.{Outcome}
use Rattle.script_meaning.specs.declared.reply.Outcome.TheVariants.{Accepted, Drained, Replied}
use Rattle.script_meaning.specs.declared.reply.Reply.{Reply}
use Rattle.script_meaning.proofs.Disks.{state_queue}
use Rattle.blk_script.specs.Texts.{reply_line}
use Rattle.in_flight.specs.Requests.{IsRequestAt, IsDue, IsAnswerTo, IsReadAnswer, IsWriteAnswer, first_of, found_by, left_by}
use Rattle.in_flight.specs.declared.answer.Answer.{Answer}

pub if_ok : {A E : Type 0} (r : Result A E) (P Q : A → Type 0) → ((x : A) → P x → Q x) → IfOk r P → IfOk r Q
if_ok (Ok x) P Q f h = f x h
if_ok (Err e) P Q f h = tt

answered_there : (came : Outcome) (s : State) (what : What) (reply : Reply) → is_some (accepted_in came) ≡ true → IsAnswered s what reply → IsReplyTo came s what reply
answered_there (Accepted request) s what reply taken answered = answered
answered_there (Drained told) s what reply taken answered = absurd (false≢true taken)
answered_there (Replied told) s what reply taken answered = absurd (false≢true taken)

-- the reply to an accepted request is the reply to its line
pub replied : (script : Meant) (position : ℕ) (line : Line) (reply : Reply) → IsRequestAt script position line → IsAnswered (state_at script position) line.what reply
    → IsReply (state_at script position) line.what reply
replied script position line reply request answered =
    answered_there (outcome (state_at script position).queue line.what) (state_at script position) line.what reply
    (ap (λ q. is_some (accepted q line.what)) (state_queue script position) ∙ request.accepted) answered

-- the line that was read is the one that the request is due to
same_line : (script : Meant) (position : ℕ) (line due : Line) → line ≡ get_or script.lines position line → slice_get script.lines position ≡ Some due → line ≡ due
same_line script position line due is at = is ∙ get_or_from_slice_get script.lines position due line at

-- what is made for what the line asks, with a reply that is right at the line, is the answer to the request that is due
answers_line : (script : Meant) (position : ℕ) (limits : Bounds) (found : List (List ℕ)) (due : IsDue script position limits found) (line : Line) (what : What) (made : Answer) (reply : Reply)
    → line ≡ due.line → due.line.what ≡ what → IsAnswered (state_at script position) what reply → made.text ≡ reply_line (line.number, reply)
    → sectors_of made.sectors ≡ left_by what → IsAnswerTo script position made
answers_line script position limits found due line what made reply same asks right told leaves = record {
  line = due.line;
  request = due.request;
  text_is = record {
    line = due.line;
    reply = reply;
    at = due.request.at;
    replied = replied script position due.line reply due.request (subst (λ w. IsAnswered (state_at script position) w reply) (sym asks) right);
    told = told ∙ ap (λ (l : Line). reply_line (l.number, reply)) same;
  };
  begins = ap (λ o. option_map_or (λ (l : Line). first_of l.what) o 0) due.request.at;
  leaves = leaves ∙ sym (ap left_by asks);
}

pub from_read : (script : Meant) (position : ℕ) (limits : Bounds) (found : List (List ℕ)) (due : IsDue script position limits found) (line : Line) (start count : ℕ)
    → line ≡ get_or script.lines position line → line.what ≡ Read start count → (made : Answer)
    → IsReadAnswer line.number limits start count found made → IsAnswerTo script position made
from_read script position limits found due line start count is what made answer =
    let same = same_line script position line due.line is due.request.at in
    let asks : due.line.what ≡ Read start count = sym (ap (λ (l : Line). l.what) same) ∙ what in
    let finds = due.finds ∙ ap (found_by (state_at script position).disk) asks in
    answers_line script position limits found due line (Read start count) made answer.reply same asks (answer.right (state_at script position) due.in_force finds)
    answer.told answer.leaves

pub from_write : (script : Meant) (position : ℕ) (limits : Bounds) (found : List (List ℕ)) (due : IsDue script position limits found) (line : Line) (start count : ℕ) (pattern : List ℕ)
    → line ≡ get_or script.lines position line → line.what ≡ Write start count pattern → (made : Answer)
    → IsWriteAnswer line.number limits start count pattern made → IsAnswerTo script position made
from_write script position limits found due line start count pattern is what made answer =
    let same = same_line script position line due.line is due.request.at in
    let asks : due.line.what ≡ Write start count pattern = sym (ap (λ (l : Line). l.what) same) ∙ what in
    answers_line script position limits found due line (Write start count pattern) made answer.reply same asks (answer.right (state_at script position) due.in_force)
    answer.told answer.leaves
