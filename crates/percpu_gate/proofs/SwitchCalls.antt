-- When the control's steps of a switch are enabled, and what they leave.
use Rattle.std.proofs.Common.{◌≡◌, ℕ, ◌+◌, ◌*◌, ◌<◌, ◌≤◌, ◌==◌, Bool, true, false, not, ◌||◌, nat_le, if◌then◌else◌, None, length, refl, ap, sym, ◌∙◌, subst, arith}
use Rattle.std.specs.Prelude.{ℤ, pos, ◌+ℤ◌, unsigned_abs}
use Rattle.std.proofs.Common.{w64, SFits, to_z, of_z}
use Rattle.std.proofs.lemmas.Int.{ints, to_z-of_z}
use Rattle.std.proofs.lemmas.Bool.Decides.{nat_tests}
use Rattle.percpu_words.specs.SlotWord.{IsDelta, most_delta}
use Rattle.percpu_core.specs.declared.limits.TheConstants.{KILL_LIMIT, SLOT_LIMIT}
use Rattle.percpu_core.specs.declared.control_event.ControlEvent.{ControlEvent}
use Rattle.percpu_core.specs.declared.control_event.ControlEvent.TheVariants as events
use Rattle.percpu_core.specs.declared.control_standing.ControlStanding.{ControlStanding}
use Rattle.percpu_core.specs.declared.not_enabled.NotEnabled.{NotEnabled}
use Rattle.percpu_core.specs.declared.not_enabled.NotEnabled.TheVariants.{NoSuchActor, NoSuchSlot, WrongPhase, NothingHeld, MidCall, HeldFull, WornOut, NoSuchWord, BadAmount, StillHeld}
use Rattle.percpu_core.specs.declared.phase.Phase.{Phase}
use Rattle.percpu_core.specs.declared.phase.Phase.TheVariants.{LiveSlots, LiveAtomic, Closing, Collected, Confirmed, Dead, Reviving, Fronted, Opening}
use Rattle.percpu_core.specs.declared.reply.Reply.TheVariants.{Done}
use Rattle.percpu_core.specs.declared.reply.Reply.TheVariants as answers
use Rattle.percpu_core.specs.declared.sizes.Sizes.{Sizes}
use Rattle.percpu_core.specs.declared.slot.Slot.{Slot}
use Rattle.percpu_core.specs.declared.slot.Slot.TheVariants.{Open}
use Rattle.percpu_core.specs.declared.slot.Slot.TheVariants.{Closed as ClosedSlot}
use Rattle.percpu_core.specs.declared.view.ControlView.{ControlView}
use Rattle.percpu_core.specs.declared.view.View.TheVariants.{OfControl}
use Rattle.percpu_core.specs.Cells.{delta, slot_at, is_open}
use Rattle.percpu_core.specs.ControlSteps.{hinders_control, is_in_turn, has_slot_to_close, has_closed_all, is_opening, names_no_pass, stores_no_word, must_mark, joins_mid_call, joins_holding, wears_out, phase_after}
use Rattle.percpu_core.specs.Machine.{IsEnabled}
use Rattle.percpu_core.specs.Phases.{is_live, is_dead_in, is_open_in, is_phase, is_mid_switch, next_slot}
use Rattle.percpu_core.specs.LimitLaw.{fronts_due}
use Rattle.percpu_core.proofs.Readings.{unhindered}
use Rattle.percpu_gate.specs.Seats.{GateFacts, Moment, ControlStep, FindsDelta}
use Rattle.percpu_gate.specs.ControlCalls.{standing, after_mark_dead, after_close, after_collect, in_phase, after_closing, phase_of_kill, HasSlotToClose, HasClosedAll, IsSumIn, HasRoom}
use Rattle.percpu_gate.proofs.Known.{moment_known}
use Rattle.percpu_gate.proofs.SlotSteps.{small_anywhere}

not_worn : (kills : ℕ) → kills < KILL_LIMIT → nat_le KILL_LIMIT kills ≡ false
not_worn kills h = grind (arith, nat_tests)

-- a step that takes in no pass and stores no word is enabled in its turn
in_turn : (z : Sizes) (zero : Bool) (s : ControlStanding) (e : ControlEvent) → names_no_pass None e ≡ false → stores_no_word z.words e ≡ false → must_mark false e ≡ false → joins_mid_call None e ≡ false → joins_holding None e ≡ false
    → wears_out s.kills e ≡ false → s.to_mark ≡ false → is_in_turn z.slots zero s e ≡ true → IsEnabled (hinders_control z zero None s e)
in_turn z zero s e actor word mark mid holding fresh unmarked turn = unhindered (hinders_control z zero None s e) no
  where
    no : (why : NotEnabled) → hinders_control z zero None s e why ≡ false
    no NoSuchActor = actor
    no NoSuchSlot = refl
    no NoSuchWord = word
    no MidCall = ap (λ (b : Bool). must_mark b e || joins_mid_call None e) unmarked ∙ (λ j. mark j || mid j)
    no WrongPhase = ap not turn
    no NothingHeld = refl
    no BadAmount = refl
    no HeldFull = refl
    no StillHeld = holding
    no WornOut = fresh

pub mark_dead_enabled : (z : Sizes) (zero : Bool) (s : ControlStanding) → s.to_mark ≡ false → is_live s.phase ≡ true → s.kills < KILL_LIMIT → IsEnabled (hinders_control z zero None s events.MarkDead)
mark_dead_enabled z zero s unmarked live few = in_turn z zero s events.MarkDead refl refl refl refl refl (not_worn s.kills few) unmarked live

pub close_enabled : (z : Sizes) (zero : Bool) (s : ControlStanding) → s.to_mark ≡ false → has_slot_to_close z.slots s.phase ≡ true → IsEnabled (hinders_control z zero None s events.Close)
close_enabled z zero s unmarked turn = in_turn z zero s events.Close refl refl refl refl refl refl unmarked turn

pub collect_enabled : (z : Sizes) (zero : Bool) (s : ControlStanding) → s.to_mark ≡ false → has_closed_all z.slots s.phase ≡ true → IsEnabled (hinders_control z zero None s events.Collect)
collect_enabled z zero s unmarked turn = in_turn z zero s events.Collect refl refl refl refl refl refl unmarked turn

pub add_bias_enabled : (z : Sizes) (zero : Bool) (s : ControlStanding) → s.to_mark ≡ false → s.phase ≡ LiveAtomic → IsEnabled (hinders_control z zero None s events.AddBias)
add_bias_enabled z zero s unmarked live = in_turn z zero s events.AddBias refl refl refl refl refl refl unmarked (ap (is_phase LiveAtomic) live)

pub open_enabled : (z : Sizes) (zero : Bool) (s : ControlStanding) (i : ℕ) → s.to_mark ≡ false → s.phase ≡ Opening i → IsEnabled (hinders_control z zero None s events.OpenNext)
open_enabled z zero s i unmarked opening = in_turn z zero s events.OpenNext refl refl refl refl refl refl unmarked (ap is_opening opening)

-- what a step that wins nothing and owes nothing leaves
calm : (c : ControlView) (phase : Phase) (sum : ℤ) → c.standing.to_mark ≡ false
    → record c { standing = record { phase = phase; kills = c.standing.kills; to_mark = false; uncollected = sum }; releases = c.releases + 0 } ≡ record c { standing = record c.standing { phase = phase; uncollected = sum } }
calm c phase sum unmarked = λ j. record c { standing = record { phase = phase; kills = c.standing.kills; to_mark = sym unmarked j; uncollected = sum }; releases = none_more j }
  where
    none_more : c.releases + 0 ≡ c.releases
    none_more = omega arith

-- the phase to which a kill goes from a live one
kill_from : (slots : ℕ) (dead : Bool) (phase : Phase) → Phase
kill_from slots dead LiveSlots = Closing 0
kill_from slots dead _ = Collected

marked_from : {g : GateFacts} (old new : ControlView) (phase : Phase) → old.standing ≡ standing phase old.standing.kills → is_live phase ≡ true → ControlStep g events.MarkDead old new Done
    → new ≡ record old { standing = standing (phase_of_kill phase) (old.standing.kills + 1); killing = true }
marked_from old new LiveSlots stands live s = s.learned ∙ (λ j. record old {
  standing = record { phase = phase j; kills = old.standing.kills + 1; to_mark = false; uncollected = sum j };
  killing = true;
  releases = none_more j;
})
  where
    none_more : old.releases + 0 ≡ old.releases
    none_more = omega arith

    sum : old.standing.uncollected ≡ pos 0
    sum = ap (λ (x : ControlStanding). x.uncollected) stands

    phase : phase_after events.MarkDead (length s.moment.cells.slots) s.moment.cells.shared.dead old.standing.phase ≡ Closing 0
    phase = ap (λ (x : ControlStanding). phase_after events.MarkDead (length s.moment.cells.slots) s.moment.cells.shared.dead x.phase) stands
marked_from old new LiveAtomic stands live s = s.learned ∙ (λ j. record old {
  standing = record { phase = phase j; kills = old.standing.kills + 1; to_mark = false; uncollected = sum j };
  killing = true;
  releases = none_more j;
})
  where
    none_more : old.releases + 0 ≡ old.releases
    none_more = omega arith

    sum : old.standing.uncollected ≡ pos 0
    sum = ap (λ (x : ControlStanding). x.uncollected) stands

    phase : phase_after events.MarkDead (length s.moment.cells.slots) s.moment.cells.shared.dead old.standing.phase ≡ Collected
    phase = ap (λ (x : ControlStanding). phase_after events.MarkDead (length s.moment.cells.slots) s.moment.cells.shared.dead x.phase) stands
marked_from old new (Closing i) stands live s = cc
marked_from old new Collected stands live s = cc
marked_from old new Confirmed stands live s = cc
marked_from old new Dead stands live s = cc
marked_from old new Reviving stands live s = cc
marked_from old new Fronted stands live s = cc
marked_from old new (Opening i) stands live s = cc

pub marked_dead : {g : GateFacts} (old new : ControlView) → old.standing ≡ standing old.standing.phase old.standing.kills → is_live old.standing.phase ≡ true → ControlStep g events.MarkDead old new Done
    → new ≡ after_mark_dead old
marked_dead old new stands live s = marked_from old new old.standing.phase stands live s

collected_same : (a b : ℤ) → answers.Collected a ≡ answers.Collected b → a ≡ b
collected_same a b e = cc

pub closed : {g : GateFacts} (old new : ControlView) (d : ℤ) → old.standing.to_mark ≡ false → ControlStep g events.Close old new (answers.Collected d) → new ≡ after_close d old
closed old new d unmarked s = s.learned ∙ calm old (Closing (next_slot old.standing.phase + 1)) _ unmarked
    ∙ ap (λ (x : ℤ). after_close x old) (sym (collected_same d (delta (slot_at s.moment.cells.slots (next_slot old.standing.phase))) s.answered))

-- the slot that is to be closed is open
next_is_open : (slots : ℕ) (phase : Phase) → has_slot_to_close slots phase ≡ true → is_open_in phase (next_slot phase) ≡ true
next_is_open slots LiveSlots h = refl
next_is_open slots LiveAtomic h = cc
next_is_open slots (Closing i) h = from_itself i
  where
    from_itself : (i : ℕ) → nat_le i i ≡ true
    from_itself i = grind (arith, nat_tests)
next_is_open slots Collected h = cc
next_is_open slots Confirmed h = cc
next_is_open slots Dead h = cc
next_is_open slots Reviving h = cc
next_is_open slots Fronted h = cc
next_is_open slots (Opening i) h = cc

opened_with : (t : Slot) (d : ℤ) → is_open t ≡ true → d ≡ delta t → t ≡ Open d
opened_with ClosedSlot d is same = cc
opened_with (Open e) d is same = ap Open (sym same)

pub finds_delta : {g : GateFacts} (slot : ℕ) (old new : ControlView) (d : ℤ) → slot ≡ next_slot old.standing.phase → slot < g.slots → has_slot_to_close g.slots old.standing.phase ≡ true
    → ControlStep g events.Close old new (answers.Collected d) → FindsDelta g slot old d
finds_delta {g} slot old new d next there turn s = record { moment = s.moment; found = subst (λ (i : ℕ). slot_at s.moment.cells.slots i ≡ Open d) (sym next) at_next }
  where
    below : next_slot old.standing.phase < length s.moment.cells.slots
    below = let sizes = s.moment.slots in omega arith

    at_next : slot_at s.moment.cells.slots (next_slot old.standing.phase) ≡ Open d
    at_next = opened_with (slot_at s.moment.cells.slots (next_slot old.standing.phase)) d
        ((moment_known old s.moment).open_slots (next_slot old.standing.phase) below ∙ next_is_open g.slots old.standing.phase turn)
        (collected_same d (delta (slot_at s.moment.cells.slots (next_slot old.standing.phase))) s.answered)

pub small_delta : {g : GateFacts} (old new : ControlView) (d : ℤ) → ControlStep g events.Close old new (answers.Collected d) → IsDelta d
small_delta old new d s = subst IsDelta (sym (collected_same d (delta (slot_at s.moment.cells.slots (next_slot old.standing.phase))) s.answered)) (small_anywhere s.moment.cells.slots (next_slot old.standing.phase) (moment_known old s.moment).deltas)

pub few_slots : (g : GateFacts) (old : ControlView) → Moment g (OfControl old) → g.slots ≤ SLOT_LIMIT
few_slots g old m = let most = (moment_known old m).slots_most in let sizes = m.slots in omega arith

is_killing : (slots : ℕ) (phase : Phase) (killing : Bool) → has_closed_all slots phase ≡ true → is_dead_in phase killing ≡ killing
is_killing slots LiveSlots killing h = cc
is_killing slots LiveAtomic killing h = cc
is_killing slots (Closing i) killing h = refl
is_killing slots Collected killing h = cc
is_killing slots Confirmed killing h = cc
is_killing slots Dead killing h = cc
is_killing slots Reviving killing h = cc
is_killing slots Fronted killing h = cc
is_killing slots (Opening i) killing h = cc

pub collected : {g : GateFacts} (slots : ℕ) (old new : ControlView) → old.standing.to_mark ≡ false → has_closed_all slots old.standing.phase ≡ true → ControlStep g events.Collect old new Done → new ≡ after_collect old
collected slots old new unmarked turn s = s.learned ∙ calm old (if s.moment.cells.shared.dead then Collected else LiveAtomic) (pos 0) unmarked
    ∙ ap (λ (b : Bool). record old { standing = record old.standing { phase = if b then Collected else LiveAtomic; uncollected = pos 0 } }) ((moment_known old s.moment).dead ∙ is_killing slots old.standing.phase old.killing turn)

pub bias_added : {g : GateFacts} (old new : ControlView) → old.standing.to_mark ≡ false → ControlStep g events.AddBias old new Done → new ≡ in_phase (Opening 0) old
bias_added old new unmarked s = s.learned ∙ calm old (Opening 0) old.standing.uncollected unmarked

-- the phase when this many of the slots are open, or closed
abbrev pub opened_to : ℕ → ℕ → Phase
opened_to slots i = if i == slots then LiveSlots else Opening i

pub slot_opened : {g : GateFacts} (i : ℕ) (old new : ControlView) → old.standing.to_mark ≡ false → old.standing.phase ≡ Opening i → ControlStep g events.OpenNext old new Done → new ≡ in_phase (opened_to g.slots (i + 1)) old
slot_opened {g} i old new unmarked opening s = s.learned ∙ calm old _ old.standing.uncollected unmarked
    ∙ (λ j. in_phase (if next_slot (opening j) + 1 == s.moment.slots j then LiveSlots else Opening (next_slot (opening j) + 1)) old)

abbrev pub closed_to : ℕ → ℤ → ControlView → ControlView
closed_to i sum c = record c { standing = record c.standing { phase = if i == 0 then c.standing.phase else Closing i; uncollected = sum } }

same_number : (a b : ℕ) → a ≡ b → (a == b) ≡ true
same_number a b is = grind (arith, nat_tests)

not_same : (a b : ℕ) → a < b → (a == b) ≡ false
not_same a b below = grind (arith, nat_tests)

not_none : (a : ℕ) → (a + 1 == 0) ≡ false
not_none a = grind (arith, nat_tests)

-- the phases and slots on the way
pub all_opened : (n : ℕ) → opened_to n n ≡ LiveSlots
all_opened n = ap (λ (b : Bool). if b then LiveSlots else Opening n) (same_number n n refl)

pub still_opening : (n i : ℕ) → i < n → opened_to n i ≡ Opening i
still_opening n i below = ap (λ (b : Bool). if b then LiveSlots else Opening i) (not_same i n below)

by_number : (i : ℕ) (phase : Phase) (b : Bool) → (i == 0) ≡ b → next_slot phase ≡ 0 → next_slot (if b then phase else Closing i) ≡ i
by_number i phase true is first = first ∙ grind (arith, nat_tests)
by_number i phase false is first = refl

pub next_closed : (i : ℕ) (phase : Phase) → next_slot phase ≡ 0 → next_slot (if i == 0 then phase else Closing i) ≡ i
next_closed i phase first = by_number i phase (i == 0) refl first

turn_by : (slots i : ℕ) (phase : Phase) (b : Bool) → (i == 0) ≡ b → i < slots → has_slot_to_close slots phase ≡ true → has_slot_to_close slots (if b then phase else Closing i) ≡ true
turn_by slots i phase true is below turn = turn
turn_by slots i phase false is below turn = grind (arith, nat_tests)

pub turn_to_close : (slots i : ℕ) (phase : Phase) → i < slots → has_slot_to_close slots phase ≡ true → has_slot_to_close slots (if i == 0 then phase else Closing i) ≡ true
turn_to_close slots i phase below turn = turn_by slots i phase (i == 0) refl below turn

pub closed_one_more : (i : ℕ) (sum d : ℤ) (c : ControlView) → next_slot c.standing.phase ≡ 0 → after_close d (closed_to i sum c) ≡ closed_to (i + 1) (sum +ℤ d) c
closed_one_more i sum d c first = (λ j. record c { standing = record c.standing { phase = Closing (next_closed i c.standing.phase first j + 1); uncollected = sum +ℤ d } })
    ∙ (λ j. record c { standing = record c.standing { phase = if sym (not_none i) j then c.standing.phase else Closing (i + 1); uncollected = sum +ℤ d } })

pub closed_all : (n : ℕ) (sum : ℤ) (c : ControlView) → 1 ≤ n → closed_to n sum c ≡ after_closing n sum c
closed_all n sum c some_slot = λ j. record c { standing = record c.standing { phase = if not_zero n some_slot j then c.standing.phase else Closing n; uncollected = sum } }
  where
    not_zero : (n : ℕ) → 1 ≤ n → (n == 0) ≡ false
    not_zero n h = grind (arith, nat_tests)

pub none_closed : (c : ControlView) → c.standing.uncollected ≡ pos 0 → closed_to 0 (pos 0) c ≡ c
none_closed c none = λ j. record c { standing = record c.standing { uncollected = sym none j } }

pub sum_grows : (i : ℕ) (sum d : ℤ) → unsigned_abs sum ≤ most_delta * i → IsDelta d → unsigned_abs (sum +ℤ d) ≤ most_delta * (i + 1)
sum_grows i sum d most small = omega (arith, ints)

-- a kill that has a slot to close, or has closed all
pub closing_turn : (slots : ℕ) (phase : Phase) → HasClosedAll phase slots → has_closed_all slots phase ≡ true
closing_turn slots (Closing i) h = same_number i slots h
closing_turn slots LiveSlots h = absurd h
closing_turn slots LiveAtomic h = absurd h
closing_turn slots Collected h = absurd h
closing_turn slots Confirmed h = absurd h
closing_turn slots Dead h = absurd h
closing_turn slots Reviving h = absurd h
closing_turn slots Fronted h = absurd h
closing_turn slots (Opening i) h = absurd h

pub sum_is_small : (phase : Phase) (sum : ℤ) → IsSumIn phase sum → unsigned_abs sum ≤ most_delta * SLOT_LIMIT
sum_is_small (Closing i) sum h = let most = h.0 in let small = h.1 in omega arith
sum_is_small LiveSlots sum h = let is : unsigned_abs sum ≡ 0 = ap unsigned_abs h in omega arith
sum_is_small LiveAtomic sum h = let is : unsigned_abs sum ≡ 0 = ap unsigned_abs h in omega arith
sum_is_small Collected sum h = let is : unsigned_abs sum ≡ 0 = ap unsigned_abs h in omega arith
sum_is_small Confirmed sum h = let is : unsigned_abs sum ≡ 0 = ap unsigned_abs h in omega arith
sum_is_small Dead sum h = let is : unsigned_abs sum ≡ 0 = ap unsigned_abs h in omega arith
sum_is_small Reviving sum h = let is : unsigned_abs sum ≡ 0 = ap unsigned_abs h in omega arith
sum_is_small Fronted sum h = let is : unsigned_abs sum ≡ 0 = ap unsigned_abs h in omega arith
sum_is_small (Opening i) sum h = let is : unsigned_abs sum ≡ 0 = ap unsigned_abs h in omega arith

-- a kill that has a slot to close
pub slot_turn : (slots : ℕ) (phase : Phase) → HasSlotToClose phase slots → (has_slot_to_close slots phase ≡ true) × (next_slot phase < slots)
slot_turn slots (Closing i) h = (grind (arith, nat_tests), h)
slot_turn slots LiveSlots h = absurd h
slot_turn slots LiveAtomic h = absurd h
slot_turn slots Collected h = absurd h
slot_turn slots Confirmed h = absurd h
slot_turn slots Dead h = absurd h
slot_turn slots Reviving h = absurd h
slot_turn slots Fronted h = absurd h
slot_turn slots (Opening i) h = absurd h

pub sum_to_slot : (slots : ℕ) (phase : Phase) (sum : ℤ) → HasSlotToClose phase slots → IsSumIn phase sum → unsigned_abs sum ≤ most_delta * next_slot phase
sum_to_slot slots (Closing i) sum h s = s.1
sum_to_slot slots LiveSlots sum h s = absurd h
sum_to_slot slots LiveAtomic sum h s = absurd h
sum_to_slot slots Collected sum h s = absurd h
sum_to_slot slots Confirmed sum h s = absurd h
sum_to_slot slots Dead sum h s = absurd h
sum_to_slot slots Reviving sum h s = absurd h
sum_to_slot slots Fronted sum h s = absurd h
sum_to_slot slots (Opening i) sum h s = absurd h

pub closing_kills : (slots : ℕ) (phase : Phase) → HasSlotToClose phase slots → is_mid_switch phase ≡ true
closing_kills slots (Closing i) h = refl
closing_kills slots LiveSlots h = absurd h
closing_kills slots LiveAtomic h = absurd h
closing_kills slots Collected h = absurd h
closing_kills slots Confirmed h = absurd h
closing_kills slots Dead h = absurd h
closing_kills slots Reviving h = absurd h
closing_kills slots Fronted h = absurd h
closing_kills slots (Opening i) h = absurd h

pub closing_room : (slots : ℕ) (phase : Phase) → HasSlotToClose phase slots → fronts_due phase true ≡ 2
closing_room slots (Closing i) h = refl
closing_room slots LiveSlots h = absurd h
closing_room slots LiveAtomic h = absurd h
closing_room slots Collected h = absurd h
closing_room slots Confirmed h = absurd h
closing_room slots Dead h = absurd h
closing_room slots Reviving h = absurd h
closing_room slots Fronted h = absurd h
closing_room slots (Opening i) h = absurd h

-- a sum within the limits is what the machine makes of it
pub sum_fits : (u d : ℤ) → unsigned_abs u ≤ most_delta * SLOT_LIMIT → IsDelta d → to_z w64 (of_z w64 (to_z w64 (of_z w64 u) +ℤ to_z w64 (of_z w64 d))) ≡ u +ℤ d
sum_fits u d most small = let first : SFits w64 u = omega (arith, ints) in let second : SFits w64 d = omega (arith, ints) in let both : SFits w64 (u +ℤ d) = omega (arith, ints) in
    ap (λ (z : ℤ). to_z w64 (of_z w64 z)) (λ j. to_z-of_z w64 u first j +ℤ to_z-of_z w64 d second j) ∙ to_z-of_z w64 (u +ℤ d) both

pub next_standing : (s : ControlStanding) (phase : Phase) (kills slot : ℕ) (sum d total : ℤ) → s ≡ record (standing phase kills) { uncollected = sum } → slot ≡ next_slot phase → total ≡ sum +ℤ d
    → record s { phase = Closing (next_slot s.phase + 1); uncollected = s.uncollected +ℤ d } ≡ record { phase = Closing (slot + 1); kills = kills; to_mark = false; uncollected = total }
next_standing s phase kills slot sum d total stands is adds = (λ j. record { phase = Closing (next_slot (stands j).phase + 1); kills = (stands j).kills; to_mark = (stands j).to_mark; uncollected = (stands j).uncollected +ℤ d })
    ∙ (λ j. record { phase = Closing (sym is j + 1); kills = kills; to_mark = false; uncollected = sym adds j })

-- what the control keeps while a kill closes slots
pub record KeepsClosing (phase : Phase) (kills front slot : ℕ) (sum total : ℤ) (old new : ControlView) : Type 0 where
  pub stands : new.standing ≡ record { phase = Closing (slot + 1); kills = kills; to_mark = false; uncollected = total }
  pub room : (kills ≤ KILL_LIMIT) × (front + 2 ≤ 2 * (kills + 1))
  pub sum_in : (slot + 1 ≤ SLOT_LIMIT) × (unsigned_abs total ≤ most_delta * (slot + 1))
  pub killing : new.killing ≡ true

pub keeps_closing : (phase : Phase) (kills front slot slots : ℕ) (sum d total : ℤ) (old new : ControlView) → old.standing ≡ record (standing phase kills) { uncollected = sum } → HasRoom phase kills front → IsSumIn phase sum → old.killing ≡ is_mid_switch phase
    → HasSlotToClose old.standing.phase slots → slots ≤ SLOT_LIMIT → slot ≡ next_slot old.standing.phase → IsDelta d → total ≡ to_z w64 (of_z w64 (to_z w64 (of_z w64 sum) +ℤ to_z w64 (of_z w64 d))) → new ≡ after_close d old
    → KeepsClosing phase kills front slot sum total old new
keeps_closing phase kills front slot slots sum d total old new stands room sum_in killing closing few next small adds left = record {
  stands = ap (λ (c : ControlView). c.standing) left ∙ next_standing old.standing phase kills slot sum d total stands at_slot is_sum;
  room = let due = closing_room slots phase open_ in let left_room = room.1 in (room.0, omega arith);
  sum_in = let below = (slot_turn slots phase open_).1 in let here = at_slot in (omega arith, subst (λ (z : ℤ). unsigned_abs z ≤ most_delta * (slot + 1)) (sym is_sum) (sum_grows slot sum d to_here small));
  killing = ap (λ (c : ControlView). c.killing) left ∙ killing ∙ closing_kills slots phase open_;
}
  where
    open_ : HasSlotToClose phase slots
    open_ = subst (λ (s : ControlStanding). HasSlotToClose s.phase slots) stands closing

    at_slot : slot ≡ next_slot phase
    at_slot = next ∙ ap (λ (s : ControlStanding). next_slot s.phase) stands

    is_sum : total ≡ sum +ℤ d
    is_sum = adds ∙ sum_fits sum d (sum_is_small phase sum sum_in) small

    to_here : unsigned_abs sum ≤ most_delta * slot
    to_here = let most = sum_to_slot slots phase sum open_ sum_in in let here = at_slot in omega arith
