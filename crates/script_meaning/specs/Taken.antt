-- The outcome of each line of a script, and the queue after it: the table of docs/FORMATS.md. It doesn't depend on the disk's bytes.
use Rattle.std.specs.Prelude.{ℕ, ◌+◌, ◌-◌, ◌≤◌, ◌==◌, Bool, true, false, nat_lt, if◌then◌else◌, Option, Some, None}
use Rattle.queue_limits.specs.Bounds.{Bounds, is_physical_size}
use Rattle.queue_limits.specs.declared.limits.TheConstants.{CHUNK_LIMIT}
use Rattle.script_meaning.specs.Queue.{Queue}
use Rattle.script_meaning.specs.declared.script.What.{What}
use Rattle.script_meaning.specs.declared.script.What.TheVariants.{Read, Write, Freeze, Thaw, SetMax, SetChunk, SetPhysical, SetMode, Stat as Tell, Remove}
use Rattle.script_meaning.specs.declared.reply.Outcome.{Outcome}
use Rattle.script_meaning.specs.declared.queue_state.TheConstants.{DEPTH_LIMIT}
use Rattle.script_meaning.specs.declared.reply.Outcome.TheVariants.{Accepted, Drained, Replied}
use Rattle.script_meaning.specs.declared.reply.Stat.{Stat as Counts}
use Rattle.script_meaning.specs.declared.reply.Reply.TheVariants.{Done, Depth, NotFrozen, DepthFull, Again, PastEnd, Invalid, Stat as Told, Removed, Gone}
use Rattle.script_meaning.specs.declared.reply.Request.{Request}
use Rattle.script_meaning.specs.declared.script.Version.{Version}
use Rattle.script_meaning.specs.declared.script.Version.TheVariants.{One, Two}

-- the queue after it accepts a request
abbrev pub request_counted : Queue → Request → Queue
request_counted q request = if request.writes then record q { writes = q.writes + 1 } else record q { reads = q.reads + 1 }

-- a request is refused by a freeze or past the disk's end, and accepted otherwise
abbrev pub request_taken : Queue → Request → Outcome × Queue
request_taken q request =
    if nat_lt 0 q.depth then (Replied Again, record q { again = q.again + 1 })
    else if nat_lt q.sectors (request.start + request.count) then (Replied PastEnd, record q { eio = q.eio + 1 })
    else (Accepted request, request_counted q request)

-- limits that are set: the queue drains unless it is frozen, when nothing is in flight
abbrev pub limits_taken : Queue → Bounds → Outcome × Queue
limits_taken q limits = (if q.depth == 0 then Drained Done else Replied Done, record q { limits = limits })

-- version 1 has no physical blocks, and reports none
abbrev pub told_physical : Version → Bounds → Option ℕ
told_physical One limits = None
told_physical Two limits = Some limits.physical

-- what the queue reports about itself
abbrev pub counts_of : Queue → Counts
counts_of q = record { reads = q.reads; writes = q.writes; again = q.again; eio = q.eio; depth = q.depth; max = q.limits.max; chunk = q.limits.chunk; physical = told_physical q.version q.limits; mode = q.mode }

-- a line of a queue that isn't removed
abbrev pub taken_there : Queue → What → Outcome × Queue
taken_there q (Read start count) = request_taken q (record { start = start; count = count; writes = false })
taken_there q (Write start count pattern) = request_taken q (record { start = start; count = count; writes = true })
taken_there q Freeze =
    if q.depth == DEPTH_LIMIT then (Replied DepthFull, q)
    else (Drained (Depth (q.depth + 1)), record q { depth = q.depth + 1 })
taken_there q Thaw =
    if q.depth == 0 then (Replied NotFrozen, q)
    else (Replied (Depth (q.depth - 1)), record q { depth = q.depth - 1 })
taken_there q (SetMax value) =
    if nat_lt q.limits.hardware value then (Replied Invalid, q)
    else limits_taken q (let limits = q.limits in record limits { max = if value == 0 then q.limits.hardware else value })
taken_there q (SetChunk value) =
    if nat_lt CHUNK_LIMIT value then (Replied Invalid, q)
    else limits_taken q (let limits = q.limits in record limits { chunk = value })
taken_there q (SetPhysical value) =
    if is_physical_size value then limits_taken q (let limits = q.limits in record limits { physical = value })
    else (Replied Invalid, q)
taken_there q (SetMode mode) = (Replied Done, record q { mode = mode })
taken_there q Tell = (Drained (Told (counts_of q)), q)
taken_there q Remove = (Drained Removed, record q { removed = true })

-- a line: a removed queue gives the same reply to every line
abbrev pub taken : Queue → What → Outcome × Queue
taken q what = if q.removed then (Replied Gone, q) else taken_there q what

abbrev pub outcome : Queue → What → Outcome
outcome q what = (taken q what).0

abbrev pub queue_after : Queue → What → Queue
queue_after q what = (taken q what).1

-- the request that the queue accepts, if it accepts one
abbrev pub accepted_in : Outcome → Option Request
accepted_in (Accepted request) = Some request
accepted_in outcome = None

abbrev pub accepted : Queue → What → Option Request
accepted q what = accepted_in (outcome q what)

-- an accepted request is within a disk of this many sectors
abbrev pub IsWithin : ℕ → Outcome → Type 0
IsWithin sectors (Accepted request) = request.start + request.count ≤ sectors
IsWithin sectors outcome = Unit {0}

-- whether the queue drains
abbrev pub drains_in : Outcome → Bool
drains_in (Drained reply) = true
drains_in outcome = false

abbrev pub drains : Queue → What → Bool
drains q what = drains_in (outcome q what)
