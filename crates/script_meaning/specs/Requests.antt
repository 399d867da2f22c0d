-- What is at each position of a script, where the first line has position 0, and the numbers of its accepted requests.
use Rattle.std.specs.Prelude.{◌≡◌, ℕ, ◌+◌, ◌<◌, Bool, false, true, List, [], ◌∷◌, take, slice_get, Option, is_some, option_map, if◌then◌else◌}
use Rattle.std.specs.Option.{option_and_then, option_map_or}
use Rattle.script_meaning.specs.Meaning.{State, start_of, after_lines}
use Rattle.script_meaning.specs.Queue.{Queue, start_queue}
use Rattle.script_meaning.specs.Script.{Meant}
use Rattle.script_meaning.specs.Taken.{queue_after, accepted, drains}
use Rattle.script_meaning.specs.declared.script.Line.{Line}
use Rattle.script_meaning.specs.declared.reply.Request.{Request}

-- the queue after some lines
abbrev pub queue_after_lines : Queue → List Line → Queue
queue_after_lines q [] = q
queue_after_lines q (line ∷ lines) = queue_after_lines (queue_after q line.what) lines

-- the queue before the line at a position, and the whole state there
abbrev pub queue_at : Meant → ℕ → Queue
queue_at script position = queue_after_lines (start_queue script) (take position script.lines)

abbrev pub state_at : Meant → ℕ → State
state_at script position = after_lines (start_of script) (take position script.lines)

-- the accepted request at a position, if there is one
abbrev pub accepted_at : Meant → ℕ → Option Request
accepted_at script position = option_and_then (λ line. accepted (queue_at script position) line.what) (slice_get script.lines position)

-- whether the line at a position drains the queue
abbrev pub drains_at : Meant → ℕ → Bool
drains_at script position = option_map_or (λ line. drains (queue_at script position) line.what) (slice_get script.lines position) false

-- the number of the line at a position
abbrev pub number_at : Meant → ℕ → Option ℕ
number_at script position = option_map (λ line. line.number) (slice_get script.lines position)

-- how many of these lines are accepted requests
abbrev pub accepted_among : Queue → List Line → ℕ
accepted_among q [] = 0
accepted_among q (line ∷ lines) = (if is_some (accepted q line.what) then 1 else 0) + accepted_among (queue_after q line.what) lines

-- how many accepted requests a script has, and how many come before a position: an accepted request at that position has this number, counted from 0 in the
-- script's order
abbrev pub accepted_in_all : Meant → ℕ
accepted_in_all script = accepted_among (start_queue script) script.lines

abbrev pub accepted_before : Meant → ℕ → ℕ
accepted_before script position = accepted_among (start_queue script) (take position script.lines)

-- if there is an accepted request at the earlier of two positions, the number at that position is the smaller one
abbrev pub AreNumberedInOrder : Meant → Type 0
AreNumberedInOrder script = (earlier later : ℕ) → earlier < later → is_some (accepted_at script earlier) ≡ true
    → accepted_before script earlier < accepted_before script later

-- an accepted request has this number
pub record IsNumbered (script : Meant) (number : ℕ) : Type 0 where
  pub position : ℕ
  pub accepted : is_some (accepted_at script position) ≡ true
  pub count : accepted_before script position ≡ number
