-- What one line of a script does to the disk that a single thread has, sector by sector.
use Rattle.std.proofs.Common.{◌≡◌, ◌∙◌, refl, sym, ap, subst, ℕ, ◌+◌, ◌≤◌, ◌⊎◌, inl, inr, arith, Bool, true, false, cond, is_some, List, [], ◌∷◌, length, take, Option, Some, None}
use Rattle.std.specs.List.{slice_get}
use Rattle.std.specs.Option.{option_and_then, option_map_or}
use Rattle.std.proofs.lemmas.Bool.{false≢true}
use Rattle.std.proofs.lemmas.Option.{slice_get_within, get_or_from_slice_get}
use Rattle.ram_disk.specs.Disk.{sectors_written}
use Rattle.ram_disk.specs.Pattern.{pattern_sectors}
use Rattle.ram_disk.specs.Writes.{sector_at}
use Rattle.ram_disk.proofs.SectorWrites.{written_others}
use Rattle.script_meaning.specs.Meaning.{State, start_of, disk_after, after, after_lines}
use Rattle.script_meaning.specs.Queue.{Queue}
use Rattle.script_meaning.specs.Requests.{queue_at, state_at, accepted_at, drains_at}
use Rattle.script_meaning.specs.Script.{Meant}
use Rattle.script_meaning.specs.Taken.{outcome, accepted, accepted_in, drains_in}
use Rattle.script_meaning.specs.declared.script.Line.{Line}
use Rattle.script_meaning.specs.declared.script.What.{What}
use Rattle.script_meaning.specs.declared.script.What.TheVariants.{Read, Write, Freeze, Thaw, SetMax, SetChunk, SetPhysical, SetMode, Stat, Remove}
use Rattle.script_meaning.specs.declared.reply.Outcome.{Outcome}
use Rattle.script_meaning.specs.declared.reply.Outcome.TheVariants.{Accepted, Drained, Replied}
use Rattle.script_meaning.specs.declared.reply.Request.{Request}
use Rattle.script_meaning.proofs.Disks.{length-pattern_sectors, state_disk, state_queue}
use Rattle.script_meaning.proofs.Positions.{state_at-next}
use Rattle.script_meaning.proofs.Cases.{IsOf}
use Rattle.script_meaning.proofs.Queues.{IsGood, good, follows, write_inside}
use Rattle.script_overlap.specs.Overlap.{HasSector}

-- an accepted request doesn't drain
accepted_stays : (came : Outcome) (request : Request) → accepted_in came ≡ Some request → drains_in came ≡ false
accepted_stays (Accepted r) request is = refl
accepted_stays (Drained reply) request is = cc
accepted_stays (Replied reply) request is = refl

at_place : (f : Line → Outcome) (o : Option Line) (request : Request) → option_and_then (λ (l : Line). accepted_in (f l)) o ≡ Some request
    → option_map_or (λ (l : Line). drains_in (f l)) o false ≡ false
at_place f None request is = refl
at_place f (Some line) request is = accepted_stays (f line) request is

pub accepted_drains : (script : Meant) (position : ℕ) (request : Request) → accepted_at script position ≡ Some request → drains_at script position ≡ false
accepted_drains script position request is = at_place (λ (l : Line). outcome (queue_at script position) l.what) (slice_get script.lines position) request is

-- the request of an accepted write
write_made : (q : Queue) (start count : ℕ) (pattern : List ℕ) (came : Outcome) → IsGood q (Write start count pattern) came → is_some (accepted_in came) ≡ true
    → accepted_in came ≡ Some (record { start = start; count = count; writes = true })
write_made q start count pattern (Accepted r) good e = ap (λ (x : Request). Some x) good.0
write_made q start count pattern (Drained reply) good e = absurd (false≢true e)
write_made q start count pattern (Replied reply) good e = absurd (false≢true e)

pub accepted_write : (q : Queue) (start count : ℕ) (pattern : List ℕ) → is_some (accepted q (Write start count pattern)) ≡ true
    → accepted q (Write start count pattern) ≡ Some (record { start = start; count = count; writes = true })
accepted_write q start count pattern e = write_made q start count pattern (outcome q (Write start count pattern)) (good q (Write start count pattern)) e

-- the line at a position, and the state after it
pub state_next : (script : Meant) (position : ℕ) (line : Line) → slice_get script.lines position ≡ Some line → state_at script (position + 1) ≡ after (state_at script position) line.what
state_next script position line at =
    state_at-next script position line (slice_get_within script.lines position line at) (sym (get_or_from_slice_get script.lines position line line at))

-- the test of a write, by whether it is accepted
either_way : (b : Bool) → (b ≡ true) ⊎ (b ≡ false)
either_way true = inl refl
either_way false = inr refl

-- a sector that an accepted write doesn't touch stays
other_sector : (q : Queue) (what : What) (disk : List (List ℕ)) (sector : ℕ) → length disk ≡ q.sectors
    → ((request : Request) → accepted q what ≡ Some request → request.writes ≡ true → HasSector request sector → ⊥)
    → sector_at (disk_after (outcome q what) what disk) sector ≡ sector_at disk sector
other_sector q (Write start count pattern) disk sector whole untouched =
    elim (either_way (is_some (accepted q (Write start count pattern)))) [
      | inl taken ↦
          let size = length-pattern_sectors pattern count in
          let fits : start + length (pattern_sectors pattern count) ≤ length disk = omega (arith, size, whole, write_inside q start count pattern taken) in
          ap (λ b. sector_at (cond b (sectors_written start (pattern_sectors pattern count) disk) disk) sector) taken
          ∙ written_others disk (pattern_sectors pattern count) start sector fits
          (λ within. untouched (record { start = start; count = count; writes = true }) (accepted_write q start count pattern taken) refl (omega (arith, within.0), omega (arith, within.1, size)))
      | inr refused ↦ ap (λ b. sector_at (cond b (sectors_written start (pattern_sectors pattern count) disk) disk) sector) refused
    ]
other_sector q what disk sector whole untouched = refl

-- the queue of a state is on a disk of as many sectors as the script says
sectors_of_lines : (s : State) (lines : List Line) → (after_lines s lines).queue.sectors ≡ s.queue.sectors
sectors_of_lines s [] = refl
sectors_of_lines s (line ∷ lines) = sectors_of_lines (after s line.what) lines ∙ (follows s.queue line.what).sectors

pub sectors_there : (script : Meant) (position : ℕ) → (state_at script position).queue.sectors ≡ script.sectors
sectors_there script position = sectors_of_lines (start_of script) (take position script.lines)

-- the same at a position of a script
accepted_line : (script : Meant) (position : ℕ) (line : Line) (s : State) → slice_get script.lines position ≡ Some line → s.queue ≡ queue_at script position
    → (request : Request) → accepted s.queue line.what ≡ Some request → accepted_at script position ≡ Some request
accepted_line script position line s at queue request is =
    ap (option_and_then (λ (l : Line). accepted (queue_at script position) l.what)) at ∙ sym (ap (λ q. accepted q line.what) queue) ∙ is

pub sector_stays : (script : Meant) (position : ℕ) (line : Line) (sector : ℕ) → slice_get script.lines position ≡ Some line
    → ((request : Request) → accepted_at script position ≡ Some request → request.writes ≡ true → HasSector request sector → ⊥)
    → sector_at (state_at script (position + 1)).disk sector ≡ sector_at (state_at script position).disk sector
sector_stays script position line sector at untouched =
    let s = state_at script position in
    let queue = state_queue script position in
    let whole = state_disk script position in
    ap (λ (t : State). sector_at t.disk sector) (state_next script position line at)
    ∙ other_sector s.queue line.what s.disk sector (whole ∙ sym (sectors_there script position))
    (λ request is. untouched request (accepted_line script position line s at queue request is))

-- ---- an accepted write, at its line

-- the line at a position is a write that is accepted
pub record IsWriteAt (script : Meant) (position start count : ℕ) (pattern : List ℕ) : Type 0 where
  pub line : Line
  pub at : slice_get script.lines position ≡ Some line
  pub what : line.what ≡ Write start count pattern
  pub accepted : is_some (accepted (queue_at script position) line.what) ≡ true

pub write_request : (script : Meant) (position start count : ℕ) (pattern : List ℕ) → IsWriteAt script position start count pattern
    → accepted_at script position ≡ Some (record { start = start; count = count; writes = true })
write_request script position start count pattern w =
    let yes : is_some (accepted (queue_at script position) (Write start count pattern)) ≡ true = sym (ap (λ what. is_some (accepted (queue_at script position) what)) w.what) ∙ w.accepted in
    ap (option_and_then (λ (l : Line). accepted (queue_at script position) l.what)) w.at
    ∙ ap (accepted (queue_at script position)) w.what
    ∙ accepted_write (queue_at script position) start count pattern yes

pub write_fits : (script : Meant) (position start count : ℕ) (pattern : List ℕ) → IsWriteAt script position start count pattern → start + count ≤ script.sectors
write_fits script position start count pattern w =
    let yes : is_some (accepted (state_at script position).queue (Write start count pattern)) ≡ true =
    ap (λ q. is_some (accepted q (Write start count pattern))) (state_queue script position) ∙ sym (ap (λ what. is_some (accepted (queue_at script position) what)) w.what) ∙ w.accepted in
    omega (arith, write_inside (state_at script position).queue start count pattern yes, sectors_there script position)

-- the disk after it
pub written_next : (script : Meant) (position start count : ℕ) (pattern : List ℕ) → IsWriteAt script position start count pattern
    → (state_at script (position + 1)).disk ≡ sectors_written start (pattern_sectors pattern count) (state_at script position).disk
written_next script position start count pattern w =
    let s = state_at script position in
    let yes : is_some (accepted s.queue (Write start count pattern)) ≡ true =
    ap (λ q. is_some (accepted q (Write start count pattern))) (state_queue script position) ∙ sym (ap (λ what. is_some (accepted (queue_at script position) what)) w.what) ∙ w.accepted in
    ap (λ (t : State). t.disk) (state_next script position w.line w.at)
    ∙ ap (λ what. disk_after (outcome s.queue what) what s.disk) w.what
    ∙ ap (λ b. cond b (sectors_written start (pattern_sectors pattern count) s.disk) s.disk) yes

-- ---- which lines write

abbrev pub writes_of : What → Bool
writes_of (Write start count pattern) = true
writes_of what = false

of_writes : (what : What) (request : Request) → IsOf what request → request.writes ≡ writes_of what
of_writes (Read start count) request is = ap (λ (r : Request). r.writes) is
of_writes (Write start count pattern) request is = ap (λ (r : Request). r.writes) is
of_writes Freeze request is = absurd is
of_writes Thaw request is = absurd is
of_writes (SetMax value) request is = absurd is
of_writes (SetChunk value) request is = absurd is
of_writes (SetPhysical value) request is = absurd is
of_writes (SetMode mode) request is = absurd is
of_writes Stat request is = absurd is
of_writes Remove request is = absurd is

made_writes : (q : Queue) (what : What) (came : Outcome) (request : Request) → IsGood q what came → accepted_in came ≡ Some request → request.writes ≡ writes_of what
made_writes q what (Accepted r) request good is =
    let same : r ≡ request = cc in
    sym (ap (λ (x : Request). x.writes) same) ∙ of_writes what r good.0
made_writes q what (Drained reply) request good is = cc
made_writes q what (Replied reply) request good is = cc

-- an accepted request writes where its line does
pub request_writes : (script : Meant) (position : ℕ) (line : Line) (request : Request) → slice_get script.lines position ≡ Some line → accepted_at script position ≡ Some request
    → request.writes ≡ writes_of line.what
request_writes script position line request at accepted =
    let q = queue_at script position in
    made_writes q line.what (outcome q line.what) request (good q line.what)
    (sym (ap (option_and_then (λ (l : Line). accepted_in (outcome q l.what))) at) ∙ accepted)

-- an accepted request is within the disk
made_within : (q : Queue) (what : What) (came : Outcome) (request : Request) → IsGood q what came → accepted_in came ≡ Some request → request.start + request.count ≤ q.sectors
made_within q what (Accepted r) request good is =
    let same : r ≡ request = cc in
    subst (λ (x : Request). x.start + x.count ≤ q.sectors) same good.1
made_within q what (Drained reply) request good is = absurd (none_some request is)
  where
    none_some : (request : Request) → None ≡ Some request → ⊥
    none_some request e = cc
made_within q what (Replied reply) request good is = absurd (none_some request is)
  where
    none_some : (request : Request) → None ≡ Some request → ⊥
    none_some request e = cc

place_within : (f : Line → Outcome) (o : Option Line) (request : Request) (n : ℕ) → ((line : Line) → accepted_in (f line) ≡ Some request → request.start + request.count ≤ n)
    → option_and_then (λ (l : Line). accepted_in (f l)) o ≡ Some request → request.start + request.count ≤ n
place_within f None request n all is = absurd (none_some request is)
  where
    none_some : (request : Request) → None ≡ Some request → ⊥
    none_some request e = cc
place_within f (Some line) request n all is = all line is

pub request_within : (script : Meant) (position : ℕ) (request : Request) → accepted_at script position ≡ Some request → request.start + request.count ≤ script.sectors
request_within script position request accepted =
    let q = queue_at script position in
    let size : q.sectors ≡ script.sectors = sym (ap (λ (x : Queue). x.sectors) (state_queue script position)) ∙ sectors_there script position in
    subst (λ n. request.start + request.count ≤ n) size
    (place_within (λ (l : Line). outcome q l.what) (slice_get script.lines position) request q.sectors (λ line is. made_within q line.what (outcome q line.what) request (good q line.what) is) accepted)
