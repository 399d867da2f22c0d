-- How far the thread that submits and collects has come.
use Rattle.std.specs.Prelude.{◌≡◌, ℕ, ◌+◌, ◌<◌, ◌≤◌, ◌^◌, ◌⊎◌, true, false, All, List, [], ◌∷◌, ◌++◌, length, map, Option, Some, None}
use Rattle.atomic_table.specs.Seated.{TableId}
use Rattle.run_queues.specs.Numbers.{Draws, times}
use Rattle.run_queues.specs.Parts.{CollectorFacts, CountFacts, ConsumerFacts, SourceFacts}
use Rattle.run_queues.specs.Requests.{all_parts}
use Rattle.freeze_queue.specs.Queue.{QueueFacts, FreezerFacts, TagFacts}
use Rattle.script_meaning.specs.Meaning.{after_lines, start_of}
use Rattle.script_meaning.specs.Queue.{Queue, start_queue}
use Rattle.script_meaning.specs.Requests.{accepted_at, accepted_before, accepted_in_all, drains_at, queue_at}
use Rattle.script_meaning.specs.Script.{Meant}
use Rattle.script_meaning.specs.declared.reply.Reply.{Reply}
use Rattle.script_meaning.specs.declared.reply.Request.{Request}
use Rattle.script_overlap.specs.Ordered.{IsOrdered}
use Rattle.blk_script.specs.Texts.{reply_line}
use Rattle.in_flight.specs.Requests.{IsAcceptedAt, IsQueueAt, IsReplyLine}
use Rattle.in_flight.specs.Table.{AreJoined, is_owed, MayTakeRequest, owed_count, Stands}
use Rattle.in_flight.specs.declared.table.InFlightTable.{InFlightTable}
use Rattle.blk_workers.specs.Following.{IsFrozenFor, IsInStep, IsNear}
use Rattle.blk_workers.specs.Sizes.{Sizes}
use Rattle.blk_workers.specs.declared.handing.Accepted.{Accepted}
use Rattle.blk_workers.specs.declared.running.Ran.{Ran}
use Rattle.blk_workers.specs.declared.submitter.Submitter.{Submitter}

-- the freezer is the queue's, knows that the queue is drained if it is frozen, and killed its gate at most `most` times
pub record IsFollowing (queue : QueueFacts) (most : ℕ) (f : FreezerFacts) : Type 0 where
  pub own : f.queue ≡ queue
  pub drained : 0 < f.depth → f.drained ≡ true
  pub kills : f.kills ≤ most

-- this many requests were accepted before a position
pub record IsCounted (script : Meant) (position accepted : ℕ) : Type 0 where
  pub is : accepted ≡ accepted_before script position
  pub few : accepted ≤ position

-- a reply is owed to each accepted request whose token was given (a number below `given`) and whose completion wasn't collected; no more completions are to
-- come than replies are owed
pub record AreAwaited (script : Meant) (replies : List (Option (List ℕ))) (given : ℕ) (collected : List ℕ) : Type 0 where
  pub each : (number position : ℕ) → IsAcceptedAt script number position → number < given → times number collected ≡ 0 → is_owed replies position ≡ true
  pub no_more : given ≤ length collected + owed_count replies

-- what was awaited at `before` is awaited at `after`, once the completion of this number counts as collected
abbrev pub StaysAwaitedBut : Meant → List (Option (List ℕ)) → List (Option (List ℕ)) → ℕ → Type 0
StaysAwaitedBut script before after number = (given : ℕ) (collected : List ℕ) → AreAwaited script before given collected → AreAwaited script after given (collected ++ number ∷ [])

-- what was awaited at `before`, when each request before the next line had its token, is awaited at `after`
abbrev pub StaysAwaited : Meant → List (Option (List ℕ)) → List (Option (List ℕ)) → Type 0
StaysAwaited script before after =
    (given : ℕ) (collected : List ℕ) → given ≡ accepted_before script (length before) → AreAwaited script before given collected → AreAwaited script after given collected

-- the requests accepted before a position are pushed to their queue, each with the token to report its completion, and the replies to those whose completions
-- weren't collected are owed
pub record AreHandedOver (script : Meant) (requests completions : TableId) (position : ℕ) (replies : List (Option (List ℕ))) (source : SourceFacts) (collector : CollectorFacts) : Type 0 where
  pub pushes : source.queue ≡ requests
  pub collects : collector.queue ≡ completions
  pub pushed : source.pushed ≡ accepted_before script position
  pub not_ended : source.marks ≡ 0
  pub tokens : collector.given ≡ accepted_before script position
  pub awaited : AreAwaited script replies collector.given collector.collected

-- the lines before a position are taken, and the freezer is in step with the script's queue
pub record IsAt {J : Type 0} (script : Meant) (queue : QueueFacts) (position : ℕ) (s : Submitter J) : Type 0 where
  pub stands : Stands script s.table.replies s.table.disk
  pub lines : length s.table.replies ≡ position
  pub state : IsQueueAt script position s.state
  pub freezer : IsFollowing queue position s.freezer
  pub in_step : IsInStep s.state s.freezer
  pub counted : IsCounted script position s.accepted

-- the lines before a position are taken, and the accepted requests among them are handed over
pub record HasTaken {J : Type 0} (script : Meant) (queue : QueueFacts) (requests completions : TableId) (position : ℕ) (s : Submitter J) (source : SourceFacts) (collector : CollectorFacts) : Type 0 where
  pub at : IsAt script queue position s
  pub handed_over : AreHandedOver script requests completions position s.table.replies source collector

-- the table is right, and a reply is owed to each request whose completion this right to collect may still bring
pub record IsCollecting (script : Meant) (completions : TableId) (table : InFlightTable) (collector : CollectorFacts) : Type 0 where
  pub stands : Stands script table.replies table.disk
  pub own : collector.queue ≡ completions
  pub awaited : AreAwaited script table.replies collector.given collector.collected

-- the completion of this number is taken, with or without an answer: the table is right, and what else was awaited still is
pub record HasTakenCompletion (script : Meant) (number : ℕ) (old new : InFlightTable) : Type 0 where
  pub stands : Stands script new.replies new.disk
  pub lines : length new.replies ≡ length old.replies
  pub awaited : StaysAwaitedBut script old.replies new.replies number

-- completions were collected and no line was taken; the freezer may have killed its gate once more
pub record HasCollected {J : Type 0} (script : Meant) (queue : QueueFacts) (completions : TableId) (old new : Submitter J) (before after : CollectorFacts) : Type 0 where
  pub collecting : IsCollecting script completions new.table after
  pub collector : after ≡ record before { collected = after.collected }
  pub lines : length new.table.replies ≡ length old.table.replies
  pub state : new.state ≡ old.state
  pub accepted : new.accepted ≡ old.accepted
  pub follows : IsFollowing queue (length old.table.replies + 1) new.freezer

-- the same, and the queue is frozen and drained
pub record HasDrained {J : Type 0} (script : Meant) (queue : QueueFacts) (completions : TableId) (old new : Submitter J) (before after : CollectorFacts) : Type 0 where
  pub collected : HasCollected script queue completions old new before after
  pub frozen : IsFrozenFor new.state new.freezer

-- the next line is this accepted request, with this number and these limits; it may join those that are owed, and few lines come before it
pub record IsReady (script : Meant) (replies : List (Option (List ℕ))) (next : Accepted) : Type 0 where
  pub few : length replies + 1 < 2 ^ 32
  pub may_take : MayTakeRequest script replies next.request
  pub number : next.number ≡ accepted_before script (length replies)
  pub limits : next.limits ≡ (queue_at script (length replies)).limits

-- one more line is taken, its request is handed over, and the table is right
pub record HasHandedOver (script : Meant) (requests completions : TableId) (old new : InFlightTable) (source : SourceFacts) (collector : CollectorFacts) : Type 0 where
  pub stands : Stands script new.replies new.disk
  pub lines : length new.replies ≡ length old.replies + 1
  pub all : AreHandedOver script requests completions (length old.replies + 1) new.replies source collector

-- the next line is this accepted request, and few lines come before it
pub record IsRequestNext (script : Meant) (position : ℕ) (request : Request) : Type 0 where
  pub few : position + 1 < 2 ^ 32
  pub accepted : accepted_at script position ≡ Some request

-- the next line isn't an accepted request; it has this reply, and leaves the script's queue as `next`
pub record IsReplyNext (script : Meant) (replies : List (Option (List ℕ))) (line_number : ℕ) (told : Reply) (next : Queue) : Type 0 where
  pub refused : accepted_at script (length replies) ≡ None
  pub reply : IsReplyLine script (length replies) (reply_line (line_number, told))
  pub queue : IsQueueAt script (length replies + 1) next

-- the gate wasn't killed again, unless the line at this position drains the queue, by its meaning or because it is an ordered request
abbrev pub KillsToDrain : Meant → ℕ → ℕ → ℕ → Type 0
KillsToDrain script position before after = (after ≡ before) ⊎ (drains_at script position ≡ true) ⊎ IsOrdered script position

-- the next line is taken with its reply, and what was awaited still is
pub record HasReplied (script : Meant) (old new : InFlightTable) : Type 0 where
  pub stands : Stands script new.replies new.disk
  pub lines : length new.replies ≡ length old.replies + 1
  pub awaited : StaysAwaited script old.replies new.replies

-- the lines before the next are taken, except that the freezer may have killed its gate once more; one step at most brings it into step with the queue that the
-- next line leaves
pub record IsBeforeLine {J : Type 0} (script : Meant) (queue : QueueFacts) (s : Submitter J) (next : Queue) : Type 0 where
  pub stands : Stands script s.table.replies s.table.disk
  pub follows : IsFollowing queue (length s.table.replies + 1) s.freezer
  pub near : IsNear next s.freezer
  pub counted : IsCounted script (length s.table.replies) s.accepted

-- the next line is taken with its reply, and the freezer follows; what was awaited still is
pub record HasPassed {J : Type 0} (script : Meant) (queue : QueueFacts) (old new : Submitter J) : Type 0 where
  pub at : IsAt script queue (length old.table.replies + 1) new
  pub accepted : new.accepted ≡ old.accepted
  pub awaited : StaysAwaited script old.table.replies new.table.replies

-- every line is taken, nothing is owed, and the queue is frozen and drained
pub record IsEnd {J : Type 0} (script : Meant) (s : Submitter J) : Type 0 where
  pub stands : Stands script s.table.replies s.table.disk
  pub lines : length s.table.replies ≡ length script.lines
  pub none_owed : owed_count s.table.replies ≡ 0
  pub frozen : 0 < s.freezer.depth
  pub drained : s.freezer.drained ≡ true

-- the right to push before the first request: `out` of its parts are with consumers, and it has room for their lists
pub record IsNewSource (requests : TableId) (out : ℕ) (source : SourceFacts) : Type 0 where
  pub own : source.queue ≡ requests
  pub parts : source.parts + out ≡ all_parts
  pub none_pushed : source.pushed ≡ 0
  pub not_ended : source.marks ≡ 0
  pub no_lists : source.lists ≡ []
  pub room : out ≤ source.room

-- the ends of both queues before the first request
pub record AreNewEnds (requests completions : TableId) (out : ℕ) (source : SourceFacts) (collector : CollectorFacts) : Type 0 where
  pub new_source : IsNewSource requests out source
  pub collects : collector.queue ≡ completions
  pub none_given : collector.given ≡ 0

-- this many spares of this queue were taken, or put back
abbrev pub HasCounted : TableId → ℕ → CountFacts → Type 0
HasCounted queue count c = c ≡ record { queue = queue; count = count }

-- the right to draw, before the first request, with room for at least `room` numbers
pub record IsNewConsumer (requests : TableId) (room : ℕ) (consumer : ConsumerFacts) : Type 0 where
  pub own : consumer.queue ≡ requests
  pub none_drawn : consumer.drawn ≡ []
  pub has_room : room ≤ consumer.room

-- the queue of completions has a place for each completion whose token was given and that wasn't collected: so its token's holder finds room
abbrev pub HasRoomForEach : ℕ → CollectorFacts → Type 0
HasRoomForEach room collector = collector.given ≤ length collector.collected + room

-- the queue of completions, with room for one more than there are tags, and the right to collect them, before the first one
pub record AreNewCompletions (tags : ℕ) (completions : TableId) (room : ℕ) (this_queue : TableId) (collector : CollectorFacts) : Type 0 where
  pub one_more : room ≡ tags + 1
  pub its_queue : this_queue ≡ completions
  pub collects : collector.queue ≡ completions
  pub none_given : collector.given ≡ 0

-- the right to push as a level returns that had `left` of all `workers` still to start: there is an end mark for each worker that was started, and each that
-- was started at this level or below is back with the list of what it drew
pub record AreBack (workers left : ℕ) (old new : SourceFacts) : Type 0 where
  pub own : new.queue ≡ old.queue
  pub few : new.marks ≤ workers
  pub ended : workers ≤ new.marks + left
  pub parts : new.parts + workers ≡ old.parts + new.marks + left
  pub lists : length new.lists + workers ≡ length old.lists + new.marks + left
  pub drained : workers < new.marks + left → new.drained ≡ true
  pub room : old.room ≤ new.room

-- what the workers of a run drew: a list for each, which increases, and together they have the number of each accepted request once, and no other
pub record AreDrawn (script : Meant) (workers : ℕ) (lists : List (List ℕ)) : Type 0 where
  pub for_each : length lists ≡ workers
  pub draws : Draws (accepted_in_all script) lists

-- the result of a run: the text of a single thread's replies, and the disk that it leaves
pub record IsRun (script : Meant) (replies : List ℕ) (disk : List (List ℕ)) : Type 0 where
  pub told : AreJoined script replies
  pub left : disk ≡ (after_lines (start_of script) script.lines).disk

-- the result of a run, with the lists of what its workers drew
abbrev pub IsRanBy : Meant → ℕ → Ran → Type 0
IsRanBy script workers ran = IsRun script ran.replies.items ran.disk × AreDrawn script workers (map (λ list. list.items) ran.drawn.items)

-- there is at least one tag; all are this queue's, and none is entered
pub record AreFreeTags (queue : QueueFacts) (tags : List TagFacts) : Type 0 where
  pub some : 0 < length tags
  pub free : All (λ (t : TagFacts). (t.queue ≡ queue) × (t.entered ≡ false)) tags

-- the queue has this many slots and the script's hardware, and the script has few enough lines to number them
pub record Suits (script : Meant) (slot_count : ℕ) (queue : QueueFacts) : Type 0 where
  pub hardware : queue.hardware ≡ script.hardware
  pub slots : queue.gate.slots ≡ slot_count
  pub few : length script.lines < 2 ^ 32

-- a new queue for a script and these sizes: it suits the script, its freezer follows it, in step with the start of the script's queue, and its tags are free and as many
-- as the sizes say
pub record IsNewQueue (script : Meant) (sizes : Sizes) (queue : QueueFacts) (f : FreezerFacts) (tags : List TagFacts) : Type 0 where
  pub suits : Suits script sizes.slots queue
  pub follows : IsFollowing queue 0 f
  pub in_step : IsInStep (start_queue script) f
  pub count : length tags ≡ sizes.tags
  pub free : AreFreeTags queue tags
