-- What a script means on one thread: the queue and its disk, line by line, and the replies.
use Rattle.std.specs.Prelude.{◌≡◌, ℕ, if◌then◌else◌, List, [], ◌∷◌, replicate, is_some}
use Rattle.queue_limits.specs.Pieces.{IsSplit}
use Rattle.ram_disk.specs.Disk.{sectors_read, sectors_written}
use Rattle.ram_disk.specs.Pattern.{pattern_sectors}
use Rattle.ram_disk.specs.Runs.{IsRuns}
use Rattle.ram_disk.specs.Sector.{bytes_of, filled_with}
use Rattle.script_meaning.specs.Queue.{Queue, start_queue}
use Rattle.script_meaning.specs.Script.{Meant}
use Rattle.script_meaning.specs.Taken.{outcome, queue_after, accepted_in}
use Rattle.script_meaning.specs.declared.script.Line.{Line}
use Rattle.script_meaning.specs.declared.script.What.{What}
use Rattle.script_meaning.specs.declared.script.What.TheVariants.{Read, Write}
use Rattle.script_meaning.specs.declared.reply.Outcome.{Outcome}
use Rattle.script_meaning.specs.declared.reply.Outcome.TheVariants.{Accepted, Drained, Replied}
use Rattle.script_meaning.specs.declared.reply.Reply.{Reply}
use Rattle.script_meaning.specs.declared.reply.Reply.TheVariants.{Data, Written}

-- the queue and its disk: the sectors, each a list of 512 bytes
pub record State : Type 0 where
  pub queue : Queue
  pub disk : List (List ℕ)

-- at the start the disk is all zero
abbrev pub start_of : Meant → State
start_of script = record { queue = start_queue script; disk = replicate script.sectors (filled_with 0) }

-- the disk after a line: an accepted write replaces its sectors
abbrev pub disk_after : Outcome → What → List (List ℕ) → List (List ℕ)
disk_after came (Write start count pattern) disk =
    if is_some (accepted_in came) then sectors_written start (pattern_sectors pattern count) disk else disk
disk_after came what disk = disk

-- the state after a line
abbrev pub after : State → What → State
after s what = record { queue = queue_after s.queue what; disk = disk_after (outcome s.queue what) what s.disk }

-- this is the reply to an accepted request: its pieces under the limits in force, and what a read finds
abbrev pub IsAnswered : State → What → Reply → Type 0
IsAnswered s (Read start count) (Data pieces runs) = IsSplit s.queue.limits start count pieces × IsRuns runs (bytes_of (sectors_read start count s.disk))
IsAnswered s (Write start count pattern) (Written pieces) = IsSplit s.queue.limits start count pieces
IsAnswered s what reply = ⊥

-- this is the reply to a line with this outcome
abbrev pub IsReplyTo : Outcome → State → What → Reply → Type 0
IsReplyTo (Accepted request) s what reply = IsAnswered s what reply
IsReplyTo (Drained told) s what reply = reply ≡ told
IsReplyTo (Replied told) s what reply = reply ≡ told

-- this is the reply to a line
abbrev pub IsReply : State → What → Reply → Type 0
IsReply s what reply = IsReplyTo (outcome s.queue what) s what reply

-- the state after some lines
abbrev pub after_lines : State → List Line → State
after_lines s [] = s
after_lines s (line ∷ lines) = after_lines (after s line.what) lines

-- these are the replies to the lines, one for each, with its line's number
abbrev pub AreReplies : State → List Line → List (ℕ × Reply) → Type 0
AreReplies s [] [] = Unit {0}
AreReplies s (line ∷ lines) (told ∷ more) = (told.0 ≡ line.number) × IsReply s line.what told.1 × AreReplies (after s line.what) lines more
AreReplies s lines replies = ⊥
