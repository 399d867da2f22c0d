-- The steps of a pass: when each may be taken, its reply and what it changes.
use Rattle.std.specs.Prelude.{ℕ, ◌+◌, ◌-◌, ◌==◌, ℤ, pos, ◌+ℤ◌, ◌-ℤ◌, unsigned_abs, Bool, true, false, not, nat_lt, nat_le, ◌||◌, ◌&&◌, if◌then◌else◌, List, slice_index}
use Rattle.percpu_words.specs.SharedWord.{SharedWord, spelling}
use Rattle.percpu_words.specs.SlotWord.{most_delta}
use Rattle.percpu_core.specs.declared.limits.TheConstants.{HELD_LIMIT}
use Rattle.percpu_core.specs.declared.slot.Slot.{Slot}
use Rattle.percpu_core.specs.declared.slot.Slot.TheVariants.{Open}
use Rattle.percpu_core.specs.declared.slot.Slot.TheVariants.{Closed as ClosedSlot}
use Rattle.percpu_core.specs.declared.sizes.Sizes.{Sizes}
use Rattle.percpu_core.specs.declared.pass_event.PassEvent.{PassEvent}
use Rattle.percpu_core.specs.declared.pass_event.PassEvent.TheVariants.{AddTry, AddLive, AddGet, Sub, Undo, Mark, Look, Take, Give, LookShared, LoadFront, LoadWord}
use Rattle.percpu_core.specs.declared.reply.Reply.{Reply}
use Rattle.percpu_core.specs.declared.reply.Reply.TheVariants.{Given, Refused, NotLast, ToMark, Last, Lost, Won, Opened, Closed, Shared, Number}
use Rattle.percpu_core.specs.declared.pass_standing.Pending.{Pending}
use Rattle.percpu_core.specs.declared.pass_standing.Pending.TheVariants.{Nothing, OneToUndo, ZeroToMark}
use Rattle.percpu_core.specs.declared.pass_standing.PassStanding.{PassStanding}
use Rattle.percpu_core.specs.declared.not_enabled.NotEnabled.{NotEnabled}
use Rattle.percpu_core.specs.declared.not_enabled.NotEnabled.TheVariants.{NoSuchSlot, WrongPhase, NothingHeld, MidCall, HeldFull, NoSuchWord, BadAmount}
use Rattle.percpu_core.specs.Cells.{Cells, slot_at, is_open_with, exchanged, is_dead_alone}

-- the slot isn't there
abbrev pub names_no_slot : ℕ → PassEvent → Bool
names_no_slot slots (Look s) = nat_le slots s
names_no_slot slots (Take s d n) = nat_le slots s
names_no_slot slots (Give s d n) = nat_le slots s
names_no_slot slots _ = false

-- the guarded word isn't there
abbrev pub names_no_word : ℕ → PassEvent → Bool
names_no_word words (LoadWord k) = nat_le words k
names_no_word words _ = false

-- a refused try is undone, and a zero marked, before anything else
abbrev pub is_mid_call : Pending → PassEvent → Bool
is_mid_call Nothing e = false
is_mid_call OneToUndo Undo = false
is_mid_call OneToUndo _ = true
is_mid_call ZeroToMark Mark = false
is_mid_call ZeroToMark _ = true

-- the step undoes or marks, and there is nothing to undo or to mark
abbrev pub is_out_of_turn : Pending → PassEvent → Bool
is_out_of_turn Nothing Undo = true
is_out_of_turn Nothing Mark = true
is_out_of_turn _ _ = false

-- the number of references that the pass has to hold before the step
abbrev pub needed : PassEvent → ℕ
needed (AddGet n) = 1
needed (Sub n) = n
needed (Take s d n) = if n == 1 then 0 else 1
needed (Give s d n) = n
needed (LoadWord k) = 1
needed _ = 0

-- the delta is within its limit
abbrev pub is_delta : ℤ → Bool
is_delta d = nat_le (unsigned_abs d) most_delta

-- the amount is 0, or a delta before or after the exchange is beyond its limit
abbrev pub has_bad_amount : PassEvent → Bool
has_bad_amount (AddGet n) = n == 0
has_bad_amount (Sub n) = n == 0
has_bad_amount (Take s d n) = n == 0 || not (is_delta d && is_delta (d +ℤ pos n))
has_bad_amount (Give s d n) = n == 0 || not (is_delta d && is_delta (d -ℤ pos n))
has_bad_amount _ = false

-- the pass has no room for the references that the step takes
abbrev pub overfills : ℕ → PassEvent → Bool
overfills held AddTry = nat_lt HELD_LIMIT (held + 1)
overfills held AddLive = nat_lt HELD_LIMIT (held + 1)
overfills held (AddGet n) = nat_lt HELD_LIMIT (held + n)
overfills held (Take s d n) = nat_lt HELD_LIMIT (held + n)
overfills held _ = false

-- whether the reason holds against the step, for a pass in this state at a gate of these sizes
abbrev pub hinders_pass : Sizes → PassStanding → PassEvent → NotEnabled → Bool
hinders_pass sizes p e NoSuchSlot = names_no_slot sizes.slots e
hinders_pass sizes p e NoSuchWord = names_no_word sizes.words e
hinders_pass sizes p e MidCall = is_mid_call p.pending e
hinders_pass sizes p e WrongPhase = is_out_of_turn p.pending e
hinders_pass sizes p e NothingHeld = nat_lt p.held (needed e)
hinders_pass sizes p e BadAmount = has_bad_amount e
hinders_pass sizes p e HeldFull = overfills p.held e
hinders_pass sizes p e _ = false

-- a count on the shared word
abbrev pub plus : ℕ → SharedWord → SharedWord
plus n s = record s { value = s.value + n }

abbrev pub minus : ℕ → SharedWord → SharedWord
minus n s = record s { value = s.value - n }

-- DEAD alone becomes DEAD and ZERO, and any other word stays
abbrev pub marked : SharedWord → SharedWord
marked s = record s { zero = s.zero || is_dead_alone s }

-- the reply to a subtraction, given the word after it
abbrev pub left_reply : SharedWord → Reply
left_reply s = if is_dead_alone s then ToMark else NotLast

-- the reply to the exchange of DEAD alone, by what it finds
abbrev pub mark_reply : SharedWord → Reply
mark_reply s = if is_dead_alone s then Last else Lost

-- the reply to a look at a slot
abbrev pub look_reply : Slot → Reply
look_reply ClosedSlot = Closed
look_reply (Open d) = Opened d

-- the reply to an exchange of a slot's delta, by what it finds
abbrev pub exchange_reply : ℤ → Slot → Reply
exchange_reply d s = if is_open_with d s then Won else Lost

abbrev pub pass_reply : PassEvent → Cells → Reply
pass_reply AddTry c = if c.shared.zero then Refused else Given
pass_reply AddLive c = if c.shared.dead then Refused else Given
pass_reply (AddGet n) c = Given
pass_reply (Sub n) c = left_reply (minus n c.shared)
pass_reply Undo c = left_reply (minus 1 c.shared)
pass_reply Mark c = mark_reply c.shared
pass_reply (Look s) c = look_reply (slot_at c.slots s)
pass_reply (Take s d n) c = exchange_reply d (slot_at c.slots s)
pass_reply (Give s d n) c = exchange_reply d (slot_at c.slots s)
pass_reply LookShared c = Shared (spelling c.shared)
pass_reply LoadFront c = Number c.front
pass_reply (LoadWord k) c = Number (slice_index c.words k)

-- the shared word after the step
abbrev pub shared_after_pass : PassEvent → SharedWord → SharedWord
shared_after_pass AddTry s = plus 1 s
shared_after_pass AddLive s = plus 1 s
shared_after_pass (AddGet n) s = plus n s
shared_after_pass (Sub n) s = minus n s
shared_after_pass Undo s = minus 1 s
shared_after_pass Mark s = marked s
shared_after_pass _ s = s

-- the slots after the step
abbrev pub slots_after_pass : PassEvent → List Slot → List Slot
slots_after_pass (Take s d n) slots = exchanged s d (d +ℤ pos n) slots
slots_after_pass (Give s d n) slots = exchanged s d (d -ℤ pos n) slots
slots_after_pass _ slots = slots

-- the memory after the step. No step of a pass changes the front or a guarded word
abbrev pub cells_after_pass : PassEvent → Cells → Cells
cells_after_pass e c = record c { shared = shared_after_pass e c.shared; slots = slots_after_pass e c.slots }

-- the number that a step adds to the shared value, and the number that it subtracts
abbrev pub added : PassEvent → ℕ
added AddTry = 1
added AddLive = 1
added (AddGet n) = n
added _ = 0

abbrev pub taken_off : PassEvent → ℕ
taken_off (Sub n) = n
taken_off Undo = 1
taken_off _ = 0

-- references that a step gives if its reply is Given or Won, and that it drops
abbrev pub given : PassEvent → Reply → ℕ
given AddTry Given = 1
given AddLive Given = 1
given (AddGet n) Given = n
given (Take s d n) Won = n
given _ _ = 0

abbrev pub dropped : PassEvent → Reply → ℕ
dropped (Sub n) r = n
dropped (Give s d n) Won = n
dropped _ r = 0

-- what is pending after the reply to a step
abbrev pub pending_after : Reply → Pending
pending_after Refused = OneToUndo
pending_after ToMark = ZeroToMark
pending_after _ = Nothing

abbrev pub standing_after : PassEvent → Reply → PassStanding → PassStanding
standing_after e r p = record { held = p.held + given e r - dropped e r; pending = pending_after r }
