-- The steps of the control: when each may be taken, its reply and what it changes.
use Rattle.std.specs.Prelude.{ℕ, ◌+◌, ◌-◌, ◌<◌, ◌≤◌, ◌==◌, ℤ, pos, negsuc, ◌+ℤ◌, Bool, true, false, not, nat_lt, nat_le, ◌||◌, ◌&&◌, if◌then◌else◌, List, slice_set, Option, Some, is_none}
use Rattle.percpu_words.specs.SharedWord.{SharedWord, spelling, bias, dead_mark}
use Rattle.percpu_core.specs.declared.limits.TheConstants.{KILL_LIMIT}
use Rattle.percpu_core.specs.declared.slot.Slot.{Slot}
use Rattle.percpu_core.specs.declared.slot.Slot.TheVariants.{Closed, Open}
use Rattle.percpu_core.specs.declared.sizes.Sizes.{Sizes}
use Rattle.percpu_core.specs.declared.control_event.ControlEvent.{ControlEvent}
use Rattle.percpu_core.specs.declared.control_event.ControlEvent.TheVariants.{MarkDead, Close, Collect, Confirm, DropBase, Mark, TakeBase, NextFront, ClearDead, AddBias, OpenNext, StoreWord, Join, LookShared}
use Rattle.percpu_core.specs.declared.phase.Phase.{Phase}
use Rattle.percpu_core.specs.declared.phase.Phase.TheVariants.{LiveSlots, LiveAtomic, Closing, Confirmed, Dead, Reviving, Fronted, Opening}
use Rattle.percpu_core.specs.declared.phase.Phase.TheVariants.{Collected as AllCollected}
use Rattle.percpu_core.specs.declared.reply.Reply.{Reply}
use Rattle.percpu_core.specs.declared.reply.Reply.TheVariants.{ToMark, Collected, Shared, Done}
use Rattle.percpu_core.specs.declared.pass_standing.Pending.{Pending}
use Rattle.percpu_core.specs.declared.pass_standing.Pending.TheVariants.{Nothing}
use Rattle.percpu_core.specs.declared.pass_standing.PassStanding.{PassStanding}
use Rattle.percpu_core.specs.declared.control_standing.ControlStanding.{ControlStanding}
use Rattle.percpu_core.specs.declared.not_enabled.NotEnabled.{NotEnabled}
use Rattle.percpu_core.specs.declared.not_enabled.NotEnabled.TheVariants.{NoSuchActor, WrongPhase, MidCall, WornOut, NoSuchWord, StillHeld}
use Rattle.percpu_core.specs.Cells.{Cells, delta, slot_at}
use Rattle.percpu_core.specs.Phases.{is_phase, is_live, next_slot}
use Rattle.percpu_core.specs.PassSteps.{plus, minus, marked, left_reply, mark_reply}

-- the guarded word isn't there
abbrev pub stores_no_word : ℕ → ControlEvent → Bool
stores_no_word words (StoreWord k v) = nat_le words k
stores_no_word words _ = false

-- a zero is marked before anything else
abbrev pub must_mark : Bool → ControlEvent → Bool
must_mark to_mark Mark = false
must_mark to_mark _ = to_mark

abbrev pub is_nothing : Pending → Bool
is_nothing Nothing = true
is_nothing _ = false

-- the pass that joins still has a pending step, or holds a reference
abbrev pub joins_mid_call : Option PassStanding → ControlEvent → Bool
joins_mid_call (Some p) (Join k) = not (is_nothing p.pending)
joins_mid_call _ _ = false

abbrev pub joins_holding : Option PassStanding → ControlEvent → Bool
joins_holding (Some p) (Join k) = nat_lt 0 p.held
joins_holding _ _ = false

-- at a gate with this many slots: a slot may be closed; all slots are closed; a slot may be opened
abbrev pub has_slot_to_close : ℕ → Phase → Bool
has_slot_to_close slots LiveSlots = true
has_slot_to_close slots (Closing i) = nat_lt i slots
has_slot_to_close slots _ = false

abbrev pub has_closed_all : ℕ → Phase → Bool
has_closed_all slots (Closing i) = i == slots
has_closed_all slots _ = false

abbrev pub is_opening : Phase → Bool
is_opening (Opening i) = true
is_opening _ = false

-- the step belongs to this phase, at a gate with this many slots. A guarded word is stored in the phase dead with ZERO set
abbrev pub is_in_turn : ℕ → Bool → ControlStanding → ControlEvent → Bool
is_in_turn slots zero c MarkDead = is_live c.phase
is_in_turn slots zero c Close = has_slot_to_close slots c.phase
is_in_turn slots zero c Collect = has_closed_all slots c.phase
is_in_turn slots zero c Confirm = is_phase AllCollected c.phase
is_in_turn slots zero c DropBase = is_phase Confirmed c.phase
is_in_turn slots zero c Mark = c.to_mark
is_in_turn slots zero c TakeBase = is_phase Dead c.phase
is_in_turn slots zero c NextFront = is_phase Reviving c.phase
is_in_turn slots zero c ClearDead = is_phase Fronted c.phase
is_in_turn slots zero c AddBias = is_phase LiveAtomic c.phase
is_in_turn slots zero c OpenNext = is_opening c.phase
is_in_turn slots zero c (StoreWord k v) = is_phase Dead c.phase && zero
is_in_turn slots zero c (Join k) = true
is_in_turn slots zero c LookShared = true

abbrev pub wears_out : ℕ → ControlEvent → Bool
wears_out kills MarkDead = nat_le KILL_LIMIT kills
wears_out kills _ = false

abbrev pub names_no_pass : Option PassStanding → ControlEvent → Bool
names_no_pass p (Join k) = is_none p
names_no_pass p _ = false

-- whether the reason holds against the step, for a control in this state, at a gate of these sizes with ZERO set or clear; p is the pass that is to join
abbrev pub hinders_control : Sizes → Bool → Option PassStanding → ControlStanding → ControlEvent → NotEnabled → Bool
hinders_control sizes zero p c e NoSuchActor = names_no_pass p e
hinders_control sizes zero p c e NoSuchWord = stores_no_word sizes.words e
hinders_control sizes zero p c e MidCall = must_mark c.to_mark e || joins_mid_call p e
hinders_control sizes zero p c e WrongPhase = not (is_in_turn sizes.slots zero c e)
hinders_control sizes zero p c e StillHeld = joins_holding p e
hinders_control sizes zero p c e WornOut = wears_out c.kills e
hinders_control sizes zero p c e _ = false

-- the reply to the control in this state, given the memory that it finds. The reply to closing a slot is its delta
abbrev pub control_reply : ControlEvent → ControlStanding → Cells → Reply
control_reply Close c cells = Collected (delta (slot_at cells.slots (next_slot c.phase)))
control_reply DropBase c cells = left_reply (minus 1 cells.shared)
control_reply Mark c cells = mark_reply cells.shared
control_reply LookShared c cells = Shared (spelling cells.shared)
control_reply _ c cells = Done

-- the phase after the step, at a gate with this many slots and DEAD set or clear. One slot is closed or opened at a time, from the first to the last
abbrev pub phase_after : ControlEvent → ℕ → Bool → Phase → Phase
phase_after MarkDead slots dead LiveSlots = Closing 0
phase_after MarkDead slots dead _ = AllCollected
phase_after Close slots dead phase = Closing (next_slot phase + 1)
phase_after Collect slots dead _ = if dead then AllCollected else LiveAtomic
phase_after Confirm slots dead _ = Confirmed
phase_after DropBase slots dead _ = Dead
phase_after TakeBase slots dead _ = Reviving
phase_after NextFront slots dead _ = Fronted
phase_after ClearDead slots dead _ = LiveAtomic
phase_after AddBias slots dead _ = Opening 0
phase_after OpenNext slots dead phase = if next_slot phase + 1 == slots then LiveSlots else Opening (next_slot phase + 1)
phase_after _ slots dead phase = phase

-- a signed number added to a number. By the sum law the number is large enough for what is subtracted
abbrev pub moved_by : ℤ → ℕ → ℕ
moved_by (pos n) value = value + n
moved_by (negsuc n) value = value - (n + 1)

-- the sum of the closed deltas is added to the shared word and the bias removed, in one step
abbrev pub collected : ℤ → SharedWord → SharedWord
collected sum s = record s { value = moved_by sum s.value - bias }

-- the shared word after the step of a control that has not collected this sum yet
abbrev pub shared_after_control : ControlEvent → ℤ → SharedWord → SharedWord
shared_after_control MarkDead sum s = record s { dead = true }
shared_after_control Collect sum s = collected sum s
shared_after_control DropBase sum s = minus 1 s
shared_after_control Mark sum s = marked s
shared_after_control TakeBase sum s = plus 1 s
shared_after_control ClearDead sum s = record s { zero = false; dead = false }
shared_after_control AddBias sum s = plus bias s
shared_after_control _ sum s = s

-- the value after the step fits: the shared value has what the step subtracts, and room for what it adds
abbrev pub ValueFits : ControlEvent → ℤ → ℕ → Type 0
ValueFits Collect sum value = (bias ≤ moved_by sum value) × (moved_by sum value < dead_mark)
ValueFits DropBase sum value = 1 ≤ value
ValueFits TakeBase sum value = value + 1 < dead_mark
ValueFits AddBias sum value = value + bias < dead_mark
ValueFits _ sum value = Unit {0}

-- the slot that the step closes or opens is among this many
abbrev pub NextIsThere : ControlEvent → Phase → ℕ → Type 0
NextIsThere Close phase slots = next_slot phase < slots
NextIsThere OpenNext phase slots = next_slot phase < slots
NextIsThere _ phase slots = Unit {0}

abbrev pub slots_after_control : ControlEvent → Phase → List Slot → List Slot
slots_after_control Close phase slots = slice_set slots (next_slot phase) Closed
slots_after_control OpenNext phase slots = slice_set slots (next_slot phase) (Open (pos 0))
slots_after_control _ phase slots = slots

abbrev pub front_after : ControlEvent → ℕ → ℕ
front_after Confirm front = front + 1
front_after NextFront front = front + 1
front_after _ front = front

abbrev pub words_after : ControlEvent → List ℕ → List ℕ
words_after (StoreWord k v) words = slice_set words k v
words_after _ words = words

abbrev pub cells_after_control : ControlEvent → ControlStanding → Cells → Cells
cells_after_control e c cells = record {
  shared = shared_after_control e c.uncollected cells.shared;
  front = front_after e cells.front;
  slots = slots_after_control e c.phase cells.slots;
  words = words_after e cells.words;
}

abbrev pub kills_after : ControlEvent → ℕ → ℕ
kills_after MarkDead kills = kills + 1
kills_after _ kills = kills

-- the delta of the slot that was closed, from the reply
abbrev pub closed_delta : Reply → ℤ
closed_delta (Collected d) = d
closed_delta _ = pos 0

-- the sum of the deltas that were closed and aren't collected yet
abbrev pub uncollected_after : ControlEvent → Reply → ℤ → ℤ
uncollected_after Close r sum = sum +ℤ closed_delta r
uncollected_after Collect r sum = pos 0
uncollected_after _ r sum = sum

abbrev pub is_to_mark : Reply → Bool
is_to_mark ToMark = true
is_to_mark _ = false

-- the state of the control after the reply to its step, at a gate with this many slots and DEAD set or clear
abbrev pub control_standing_after : ControlEvent → Reply → ℕ → Bool → ControlStanding → ControlStanding
control_standing_after e r slots dead c = record {
  phase = phase_after e slots dead c.phase;
  kills = kills_after e c.kills;
  to_mark = is_to_mark r;
  uncollected = uncollected_after e r c.uncollected;
}
