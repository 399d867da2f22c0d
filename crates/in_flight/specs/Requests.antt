-- What is due to a request of a script, and what its answer is: both are what the script's meaning has at the request's line.
use Rattle.std.specs.Prelude.{◌≡◌, ℕ, ◌≤◌, true, if◌then◌else◌, List, [], Some, slice_get, is_some}
use Rattle.std.specs.Option.{option_map_or}
use Rattle.ram_disk.specs.Sectors.{sectors_of}
use Rattle.ram_disk.specs.Disk.{sectors_read}
use Rattle.ram_disk.specs.Pattern.{pattern_sectors}
use Rattle.queue_limits.specs.Bounds.{Bounds}
use Rattle.script_meaning.specs.Meaning.{State, IsAnswered, IsReply}
use Rattle.script_meaning.specs.Queue.{Queue, counted}
use Rattle.script_meaning.specs.Requests.{accepted_at, accepted_before, queue_at, state_at}
use Rattle.script_meaning.specs.Script.{Meant}
use Rattle.script_meaning.specs.Taken.{accepted}
use Rattle.script_meaning.specs.declared.script.Line.{Line}
use Rattle.script_meaning.specs.declared.script.What.{What}
use Rattle.script_meaning.specs.declared.script.What.TheVariants.{Read, Write}
use Rattle.script_meaning.specs.declared.reply.Reply.{Reply}
use Rattle.script_meaning.specs.declared.reply.Request.{Request}
use Rattle.blk_script.specs.Texts.{reply_line}
use Rattle.in_flight.specs.declared.answer.Answer.{Answer}

-- the line at a position is a request that the queue accepts
pub record IsRequestAt (script : Meant) (position : ℕ) (line : Line) : Type 0 where
  pub at : slice_get script.lines position ≡ Some line
  pub accepted : is_some (accepted (queue_at script position) line.what) ≡ true

-- this is the queue, without its disk, that a single thread has before the line at a position
pub record IsQueueAt (script : Meant) (position : ℕ) (q : Queue) : Type 0 where
  pub is : q ≡ queue_at script position
  pub counts : counted q ≤ position

-- the accepted request of this number, counted from 0 in the script's order, is the line at this position
pub record IsAcceptedAt (script : Meant) (number position : ℕ) : Type 0 where
  pub accepted : is_some (accepted_at script position) ≡ true
  pub count : accepted_before script position ≡ number

-- the sectors that a read finds
abbrev pub found_by : List (List ℕ) → What → List (List ℕ)
found_by disk (Read start count) = sectors_read start count disk
found_by disk what = []

-- the same for an accepted request
abbrev pub found_at : Meant → ℕ → Request → List (List ℕ)
found_at script position request = if request.writes then [] else sectors_read request.start request.count (state_at script position).disk

-- the sectors that a write leaves
abbrev pub left_by : What → List (List ℕ)
left_by (Write start count pattern) = pattern_sectors pattern count
left_by what = []

-- the first sector of a request
abbrev pub first_of : What → ℕ
first_of (Read start count) = start
first_of (Write start count pattern) = start
first_of what = 0

-- the same for the line at a position
abbrev pub first_at : Meant → ℕ → ℕ
first_at script position = option_map_or (λ (line : Line). first_of line.what) (slice_get script.lines position) 0

-- the limits in force at a request, and the sectors that it finds
pub record IsDue (script : Meant) (position : ℕ) (limits : Bounds) (found : List (List ℕ)) : Type 0 where
  pub line : Line
  pub request : IsRequestAt script position line
  pub in_force : limits ≡ (state_at script position).queue.limits
  pub finds : found ≡ found_by (state_at script position).disk line.what

-- this is the line of the reply to the line at a position
pub record IsReplyLine (script : Meant) (position : ℕ) (text : List ℕ) : Type 0 where
  pub line : Line
  pub reply : Reply
  pub at : slice_get script.lines position ≡ Some line
  pub replied : IsReply (state_at script position) line.what reply
  pub told : text ≡ reply_line (line.number, reply)

-- the answer to a request: the line of its reply, and the sectors that a write leaves, from the request's first on
pub record IsAnswer (script : Meant) (position : ℕ) (text : List ℕ) (start : ℕ) (sectors : List (List ℕ)) : Type 0 where
  pub line : Line
  pub request : IsRequestAt script position line
  pub text_is : IsReplyLine script position text
  pub begins : start ≡ first_of line.what
  pub leaves : sectors ≡ left_by line.what

-- this is the answer to the request at a position
abbrev pub IsAnswerTo : Meant → ℕ → Answer → Type 0
IsAnswerTo script position answer = IsAnswer script position answer.text (first_at script position) (sectors_of answer.sectors)

-- the answer to a read that finds these sectors under these limits: the reply is right in every state that has both
pub record IsReadAnswer (number : ℕ) (limits : Bounds) (start count : ℕ) (found : List (List ℕ)) (answer : Answer) : Type 0 where
  pub reply : Reply
  pub told : answer.text ≡ reply_line (number, reply)
  pub right : (s : State) → limits ≡ s.queue.limits → found ≡ sectors_read start count s.disk → IsAnswered s (Read start count) reply
  pub leaves : sectors_of answer.sectors ≡ []

-- the answer to a write under these limits
pub record IsWriteAnswer (number : ℕ) (limits : Bounds) (start count : ℕ) (pattern : List ℕ) (answer : Answer) : Type 0 where
  pub reply : Reply
  pub told : answer.text ≡ reply_line (number, reply)
  pub right : (s : State) → limits ≡ s.queue.limits → IsAnswered s (Write start count pattern) reply
  pub leaves : sectors_of answer.sectors ≡ pattern_sectors pattern count
