-- The script's queue one line further, and what a request is due to.
use Rattle.std.proofs.Common.{◌≡◌, ◌∙◌, refl, sym, ap, subst, ℕ, ◌+◌, ◌-◌, ◌<◌, ◌≤◌, arith, Bool, true, false, cond, eqb, nat_lt, List, [], ◌∷◌, length, take, get_or, Some, None, is_some}
use Rattle.std.proofs.lemmas.Option.{get_or_from_slice_get, slice_get_read, slice_get_within}
use Rattle.std.specs.List.{slice_get}
use Rattle.std.specs.Option.{option_and_then}
use Rattle.queue_limits.specs.Bounds.{Bounds, is_physical_size}
use Rattle.ram_disk.specs.Disk.{sectors_read}
use Rattle.script_meaning.specs.Meaning.{IsReplyTo}
use Rattle.script_meaning.specs.Queue.{Queue, counted, start_queue}
use Rattle.script_meaning.specs.Requests.{queue_after_lines, queue_at, state_at, accepted_at, drains_at}
use Rattle.script_meaning.specs.Script.{Meant}
use Rattle.script_meaning.specs.Taken.{request_counted, request_taken, limits_taken, taken_there, queue_after, outcome, accepted, accepted_in, drains_in}
use Rattle.script_meaning.specs.declared.script.Line.{Line}
use Rattle.script_meaning.specs.declared.script.What.{What}
use Rattle.script_meaning.specs.declared.script.What.TheVariants.{Read, Write, Freeze, Thaw, SetMax, SetChunk, SetPhysical, SetMode, Stat, Remove}
use Rattle.script_meaning.specs.declared.reply.Outcome.{Outcome}
use Rattle.script_meaning.specs.declared.reply.Outcome.TheVariants.{Accepted, Drained, Replied}
use Rattle.script_meaning.specs.declared.reply.Reply.{Reply}
use Rattle.script_meaning.specs.declared.reply.Reply.TheVariants.{Depth, NotFrozen, DepthFull, Again, PastEnd, Invalid, Gone}
use Rattle.script_meaning.specs.declared.reply.Request.{Request}
use Rattle.script_meaning.proofs.Cases.{IsOf}
use Rattle.script_meaning.proofs.Counted.{accepted_is_counted, counted_one}
use Rattle.script_meaning.proofs.Disks.{state_queue}
use Rattle.script_meaning.proofs.Positions.{came_at, queue_took}
use Rattle.script_meaning.proofs.Queues.{IsGood, good}
use Rattle.in_flight.specs.Requests.{IsQueueAt, found_at, IsDue, IsReplyLine, found_by}
use Rattle.blk_script.specs.Texts.{reply_line}
use Rattle.in_flight.proofs.Tables.{request_line}

-- ---- what the hardware takes stays

abbrev of_hardware : Outcome × Queue → ℕ
of_hardware t = t.1.limits.hardware

either_stays : (test : Bool) (x y : Outcome × Queue) (n : ℕ) → of_hardware x ≡ n → of_hardware y ≡ n → of_hardware (cond test x y) ≡ n
either_stays true x y n a b = a
either_stays false x y n a b = b

request_stays : (q : Queue) (r : Request) → of_hardware (request_taken q r) ≡ q.limits.hardware
request_stays q r =
    let more : Queue = cond r.writes (record q { writes = q.writes + 1 }) (record q { reads = q.reads + 1 }) in
    let counted : more.limits.hardware ≡ q.limits.hardware = elim r.writes as (λ b. (cond b (record q { writes = q.writes + 1 }) (record q { reads = q.reads + 1 })).limits.hardware ≡ q.limits.hardware) [ true ↦ refl | false ↦ refl ] in
    either_stays (nat_lt 0 q.depth) (Replied Again, record q { again = q.again + 1 })
    (cond (nat_lt q.sectors (r.start + r.count)) (Replied PastEnd, record q { eio = q.eio + 1 }) (Accepted r, more)) q.limits.hardware refl
    (either_stays (nat_lt q.sectors (r.start + r.count)) (Replied PastEnd, record q { eio = q.eio + 1 }) (Accepted r, more) q.limits.hardware refl counted)

there_stays : (q : Queue) (what : What) → of_hardware (taken_there q what) ≡ q.limits.hardware
there_stays q (Read start count) = request_stays q (record { start = start; count = count; writes = false })
there_stays q (Write start count pattern) = request_stays q (record { start = start; count = count; writes = true })
there_stays q Freeze = either_stays (eqb q.depth 1000) (Replied DepthFull, q) (Drained (Depth (q.depth + 1)), record q { depth = q.depth + 1 }) q.limits.hardware refl refl
there_stays q Thaw = either_stays (eqb q.depth 0) (Replied NotFrozen, q) (Replied (Depth (q.depth - 1)), record q { depth = q.depth - 1 }) q.limits.hardware refl refl
there_stays q (SetMax value) =
    let limits : Bounds = let old : Bounds = q.limits in record old { max = cond (eqb value 0) q.limits.hardware value } in
    either_stays (nat_lt q.limits.hardware value) (Replied Invalid, q) (limits_taken q limits) q.limits.hardware refl refl
there_stays q (SetChunk value) =
    let limits : Bounds = let old : Bounds = q.limits in record old { chunk = value } in
    either_stays (nat_lt 65535 value) (Replied Invalid, q) (limits_taken q limits) q.limits.hardware refl refl
there_stays q (SetPhysical value) =
    let limits : Bounds = let old : Bounds = q.limits in record old { physical = value } in
    either_stays (is_physical_size value) (limits_taken q limits) (Replied Invalid, q) q.limits.hardware refl refl
there_stays q (SetMode mode) = refl
there_stays q Stat = refl
there_stays q Remove = refl

line_stays : (q : Queue) (what : What) → (queue_after q what).limits.hardware ≡ q.limits.hardware
line_stays q what = either_stays q.removed (Replied Gone, q) (taken_there q what) q.limits.hardware refl (there_stays q what)

lines_stay : (q : Queue) (lines : List Line) → (queue_after_lines q lines).limits.hardware ≡ q.limits.hardware
lines_stay q [] = refl
lines_stay q (line ∷ lines) = lines_stay (queue_after q line.what) lines ∙ line_stays q line.what

pub hardware_at : (script : Meant) (position : ℕ) → (queue_at script position).limits.hardware ≡ script.hardware
hardware_at script position = lines_stay (start_queue script) (take position script.lines)

-- ---- what a request is due to

none_some : {X : Type 0} (x : X) → None ≡ Some x → ⊥
none_some x e = cc

-- an accepted request is the one that its line makes
of_line : (q : Queue) (what : What) (came : Outcome) (request : Request) → IsGood q what came → accepted_in came ≡ Some request → IsOf what request
of_line q what (Accepted r) request good is =
    let same : r ≡ request = cc in
    subst (λ (x : Request). IsOf what x) same good.0
of_line q what (Drained reply) request good is = absurd (none_some request is)
of_line q what (Replied reply) request good is = absurd (none_some request is)

finds_as : (what : What) (request : Request) (disk : List (List ℕ)) → IsOf what request → cond request.writes [] (sectors_read request.start request.count disk) ≡ found_by disk what
finds_as (Read start count) request disk is = ap (λ (r : Request). cond r.writes [] (sectors_read r.start r.count disk)) is
finds_as (Write start count pattern) request disk is = ap (λ (r : Request). cond r.writes [] (sectors_read r.start r.count disk)) is
finds_as Freeze request disk is = absurd is
finds_as Thaw request disk is = absurd is
finds_as (SetMax value) request disk is = absurd is
finds_as (SetChunk value) request disk is = absurd is
finds_as (SetPhysical value) request disk is = absurd is
finds_as (SetMode mode) request disk is = absurd is
finds_as Stat request disk is = absurd is
finds_as Remove request disk is = absurd is

-- the limits in force at an accepted request, and what it finds, are due to it
pub due_at : (script : Meant) (position : ℕ) (request : Request) (limits : Bounds) (found : List (List ℕ)) → accepted_at script position ≡ Some request
    → limits ≡ (queue_at script position).limits → found ≡ found_at script position request → IsDue script position limits found
due_at script position request limits found accepts in_force finds =
    let q = queue_at script position in
    let there = request_line script position request accepts in
    let line : Line = there.0 in
    let is : accepted q line.what ≡ Some request = sym (ap (option_and_then (λ (l : Line). accepted q l.what)) there.1) ∙ accepts in
    record {
      line = line;
      request = record { at = there.1; accepted = ap is_some is };
      in_force = in_force ∙ ap (λ (x : Queue). x.limits) (sym (state_queue script position));
      finds = finds ∙ finds_as line.what request (state_at script position).disk (of_line q line.what (outcome q line.what) request (good q line.what) is);
    }

-- ---- the reply to a line that is no accepted request

came_there : (script : Meant) (position : ℕ) (line : Line) (q : Queue) (came : Outcome) → q ≡ queue_at script position → came ≡ outcome q line.what
    → came ≡ outcome (state_at script position).queue line.what
came_there script position line q came stands is = is ∙ ap (λ (x : Queue). outcome x line.what) (stands ∙ sym (state_queue script position))

pub told_drained : (script : Meant) (position : ℕ) (line : Line) (q : Queue) (reply : Reply) → slice_get script.lines position ≡ Some line → q ≡ queue_at script position
    → Drained reply ≡ outcome q line.what → IsReplyLine script position (reply_line (line.number, reply))
told_drained script position line q reply at stands is = record {
  line = line;
  reply = reply;
  at = at;
  replied = let P : Outcome → Type 0 = λ o. IsReplyTo o (state_at script position) line.what reply in subst P (came_there script position line q (Drained reply) stands is) refl;
  told = refl;
}

pub told_replied : (script : Meant) (position : ℕ) (line : Line) (q : Queue) (reply : Reply) → slice_get script.lines position ≡ Some line → q ≡ queue_at script position
    → Replied reply ≡ outcome q line.what → IsReplyLine script position (reply_line (line.number, reply))
told_replied script position line q reply at stands is = record {
  line = line;
  reply = reply;
  at = at;
  replied = let P : Outcome → Type 0 = λ o. IsReplyTo o (state_at script position) line.what reply in subst P (came_there script position line q (Replied reply) stands is) refl;
  told = refl;
}

-- ---- the next line, and what it comes to

pub record Came (script : Meant) (position : ℕ) (line : Line) (q next : Queue) (came : Outcome) : Type 0 where
  pub at : slice_get script.lines position ≡ Some line
  pub queue : IsQueueAt script position q
  pub outcome_is : came ≡ outcome q line.what
  pub after : next ≡ queue_after q line.what
  pub counts : counted next ≤ counted q + 1

pub came_to : (script told : Meant) (position i : ℕ) (lines : List Line) (line : Line) (q next : Queue) (came : Outcome) → told ≡ script → lines ≡ told.lines → i ≡ position
    → position < length told.lines → line ≡ get_or lines i line → IsQueueAt script position q → came ≡ outcome q line.what → next ≡ queue_after q line.what
    → counted next ≤ counted q + 1 → Came script position line q next came
came_to script told position i lines line q next came same lines_are i_is less is queue outcome_is after counts =
    let whole : lines ≡ script.lines = lines_are ∙ ap (λ (s : Meant). s.lines) same in
    let within : position < length script.lines = subst (λ (s : Meant). position < length s.lines) same less in
    let there : line ≡ get_or script.lines position line = is ∙ ap (λ ls. get_or ls i line) whole ∙ ap (λ k. get_or script.lines k line) i_is in
    record {
      at = slice_get_read script.lines (length script.lines) position line refl within there;
      queue = queue;
      outcome_is = outcome_is;
      after = after;
      counts = counts;
    }

pub next_queue : (script : Meant) (position : ℕ) (line : Line) (q next : Queue) (came : Outcome) → Came script position line q next came → IsQueueAt script (position + 1) next
next_queue script position line q next came c = record {
  is = queue_took script position line q next (slice_get_within script.lines position line c.at) (sym (get_or_from_slice_get script.lines position line line c.at)) c.queue.is c.after;
  counts = omega (arith, c.counts, c.queue.counts);
}

-- a queue that counted the accepted request at a position took the line there
pub counted_there : (script : Meant) (position : ℕ) (request : Request) (q next : Queue) → accepted_at script position ≡ Some request → IsQueueAt script position q
    → next ≡ request_counted q request → IsQueueAt script (position + 1) next
counted_there script position request q next accepts queue counts =
    let there = request_line script position request accepts in
    let line : Line = there.0 in
    let is : accepted (queue_at script position) line.what ≡ Some request = sym (ap (option_and_then (λ (l : Line). accepted (queue_at script position) l.what)) there.1) ∙ accepts in
    let took : next ≡ queue_after q line.what = counts ∙ sym (accepted_is_counted q line.what request (ap (λ x. accepted x line.what) queue.is ∙ is)) in
    record {
      is = queue_took script position line q next (slice_get_within script.lines position line there.1) (sym (get_or_from_slice_get script.lines position line line there.1)) queue.is took;
      counts = omega (arith, ap counted counts, counted_one q request, queue.counts);
    }

pub accepted_there : (script : Meant) (position : ℕ) (line : Line) (q next : Queue) (came : Outcome) → Came script position line q next came → accepted_at script position ≡ accepted_in came
accepted_there script position line q next came c = (came_at script position line q came c.at c.queue.is c.outcome_is).0

pub drains_there : (script : Meant) (position : ℕ) (line : Line) (q next : Queue) (came : Outcome) → Came script position line q next came → drains_at script position ≡ drains_in came
drains_there script position line q next came c = (came_at script position line q came c.at c.queue.is c.outcome_is).1

pub reply_drained : (script : Meant) (position : ℕ) (line : Line) (q next : Queue) (reply : Reply) → Came script position line q next (Drained reply)
    → IsReplyLine script position (reply_line (line.number, reply))
reply_drained script position line q next reply c = told_drained script position line q reply c.at c.queue.is c.outcome_is

pub reply_replied : (script : Meant) (position : ℕ) (line : Line) (q next : Queue) (reply : Reply) → Came script position line q next (Replied reply)
    → IsReplyLine script position (reply_line (line.number, reply))
reply_replied script position line q next reply c = told_replied script position line q reply c.at c.queue.is c.outcome_is

-- what holds of a script at a position holds of the same by other names
pub moved : (P : Meant → ℕ → Type 0) (told script : Meant) (here position : ℕ) → told ≡ script → here ≡ position → P script position → P told here
moved P told script here position same at h = subst (λ s. P s here) (sym same) (subst (λ p. P script p) (sym at) h)
