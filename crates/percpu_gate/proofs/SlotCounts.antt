-- What a look at a slot and the exchange after it leave, and when the exchange is enabled.
use Rattle.std.proofs.Common.{◌≡◌, ℕ, zero, suc, ◌+◌, ◌-◌, ◌<◌, ◌≤◌, ◌==◌, ◌⊎◌, inl, inr, Bool, true, false, not, ◌||◌, ◌&&◌, nat_lt, nat_le, if◌then◌else◌, List, [], ◌∷◌, set, Option, Some, None, refl, ap, sym, ◌∙◌, subst, arith}
use Rattle.std.specs.Prelude.{ℤ, pos, ◌+ℤ◌, ◌-ℤ◌}
use Rattle.std.proofs.lemmas.Bool.Decides.{nat_tests}
use mathlib.Core.Option.{some}
use lib.ListN.{get_elem?}
use Rattle.percpu_words.specs.SlotWord.{IsDelta}
use Rattle.percpu_core.specs.declared.limits.TheConstants.{HELD_LIMIT}
use Rattle.percpu_core.specs.declared.not_enabled.NotEnabled.{NotEnabled}
use Rattle.percpu_core.specs.declared.not_enabled.NotEnabled.TheVariants.{NoSuchActor, NoSuchSlot, WrongPhase, NothingHeld, MidCall, HeldFull, WornOut, NoSuchWord, BadAmount, StillHeld}
use Rattle.percpu_core.specs.declared.pass_event.PassEvent.{PassEvent}
use Rattle.percpu_core.specs.declared.pass_event.PassEvent.TheVariants as events
use Rattle.percpu_core.specs.declared.pass_standing.Pending.{Pending}
use Rattle.percpu_core.specs.declared.pass_standing.Pending.TheVariants.{Nothing}
use Rattle.percpu_core.specs.declared.pass_standing.PassStanding.{PassStanding}
use Rattle.percpu_core.specs.declared.reply.Reply.{Reply}
use Rattle.percpu_core.specs.declared.reply.Reply.TheVariants.{Won, Lost}
use Rattle.percpu_core.specs.declared.sizes.Sizes.{Sizes}
use Rattle.percpu_core.specs.declared.slot.Slot.{Slot}
use Rattle.percpu_core.specs.declared.slot.Slot.TheVariants.{Closed, Open}
use Rattle.percpu_core.specs.declared.view.WordRead.{WordRead}
use Rattle.percpu_core.specs.declared.view.PassView.{PassView}
use Rattle.percpu_core.specs.declared.view.View.{View}
use Rattle.percpu_core.specs.declared.view.View.TheVariants.{OfPass}
use Rattle.percpu_core.specs.Cells.{slot_at, is_open, is_open_with}
use Rattle.percpu_core.specs.Machine.{IsEnabled, won}
use Rattle.percpu_core.specs.PassSteps.{hinders_pass, pending_after, given, dropped, is_delta, is_mid_call}
use Rattle.percpu_core.specs.PassLearns.{begun, next_even}
use Rattle.percpu_core.proofs.Flags.{or_false}
use Rattle.percpu_core.proofs.Readings.{reads_anything, unhindered}
use Rattle.percpu_gate.specs.Seats.{GateFacts, Moment, PassStep, looked, exchanged}
use Rattle.percpu_gate.specs.Calls.{holding}
use Rattle.percpu_gate.specs.Counts.{OpenMoment, SlotTake, taken_on_slot}
use Rattle.percpu_gate.proofs.Known.{moment_knows}
use Rattle.percpu_gate.proofs.PassCalls.{counted}

idle_before : (q : Pending) (e : PassEvent) → q ≡ Nothing → is_mid_call q e ≡ false
idle_before q e is = ap (λ (x : Pending). is_mid_call x e) is

there_is : (slots s : ℕ) → s < slots → nat_le slots s ≡ false
there_is slots s h = grind (arith, nat_tests)

not_none : (n : ℕ) → 1 ≤ n → (n == 0) ≡ false
not_none n one = grind (arith, nat_tests)

within : (d : ℤ) → IsDelta d → is_delta d ≡ true
within d h = grind (arith, nat_tests)

good_deltas : (n : ℕ) (d e : ℤ) → 1 ≤ n → IsDelta d → IsDelta e → (n == 0 || not (is_delta d && is_delta e)) ≡ false
good_deltas n d e one h g = λ j. not_none n one j || not (within d h j && within e g j)

enough : (n held : ℕ) → 1 ≤ n → (2 ≤ n → 1 ≤ held) → nat_lt held (if n == 1 then 0 else 1) ≡ false
enough n held one has = grind (arith, nat_tests)

not_over : (held n : ℕ) → held + n ≤ HELD_LIMIT → nat_lt HELD_LIMIT (held + n) ≡ false
not_over held n room = grind (arith, nat_tests)

holds : (held n : ℕ) → n ≤ held → nat_lt held n ≡ false
holds held n has = grind (arith, nat_tests)

-- when a pass may take on a slot, and give back
pub take_enabled : (z : Sizes) (p : PassStanding) (s : ℕ) (d : ℤ) (n : ℕ) → s < z.slots → p.pending ≡ Nothing → 1 ≤ n → (2 ≤ n → 1 ≤ p.held) → p.held + n ≤ HELD_LIMIT → IsDelta d → IsDelta (d +ℤ pos n)
    → IsEnabled (hinders_pass z p (events.Take s d n))
take_enabled z p s d n there idle one has room small small' = unhindered (hinders_pass z p (events.Take s d n)) no
  where
    no : (why : NotEnabled) → hinders_pass z p (events.Take s d n) why ≡ false
    no NoSuchActor = refl
    no NoSuchSlot = there_is z.slots s there
    no NoSuchWord = refl
    no MidCall = idle_before p.pending (events.Take s d n) idle
    no WrongPhase = ap (λ (q : Pending). hinders_pass z (record { held = p.held; pending = q }) (events.Take s d n) WrongPhase) idle
    no NothingHeld = enough n p.held one has
    no BadAmount = good_deltas n d (d +ℤ pos n) one small small'
    no HeldFull = not_over p.held n room
    no StillHeld = refl
    no WornOut = refl

pub give_enabled : (z : Sizes) (p : PassStanding) (s : ℕ) (d : ℤ) (n : ℕ) → s < z.slots → p.pending ≡ Nothing → 1 ≤ n → n ≤ p.held → IsDelta d → IsDelta (d -ℤ pos n)
    → IsEnabled (hinders_pass z p (events.Give s d n))
give_enabled z p s d n there idle one has small small' = unhindered (hinders_pass z p (events.Give s d n)) no
  where
    no : (why : NotEnabled) → hinders_pass z p (events.Give s d n) why ≡ false
    no NoSuchActor = refl
    no NoSuchSlot = there_is z.slots s there
    no NoSuchWord = refl
    no MidCall = idle_before p.pending (events.Give s d n) idle
    no WrongPhase = ap (λ (q : Pending). hinders_pass z (record { held = p.held; pending = q }) (events.Give s d n) WrongPhase) idle
    no NothingHeld = holds p.held n has
    no BadAmount = good_deltas n d (d -ℤ pos n) one small small'
    no HeldFull = refl
    no StillHeld = refl
    no WornOut = refl

look_owes_none : (o : Option ℤ) → pending_after (looked o) ≡ Nothing
look_owes_none None = refl
look_owes_none (Some d) = refl

look_wins_none : (o : Option ℤ) → won (looked o) ≡ 0
look_wins_none None = refl
look_wins_none (Some d) = refl

calm : (p : PassView) → p.standing.pending ≡ Nothing → record p { standing = record { held = p.standing.held; pending = Nothing }; releases = p.releases + 0 } ≡ p
calm p idle = λ j. record p { standing = record { held = p.standing.held; pending = sym idle j }; releases = none_more j }
  where
    none_more : p.releases + 0 ≡ p.releases
    none_more = omega arith

-- a look at a slot leaves what the pass knows
pub look_leaves : {g : GateFacts} (s : ℕ) (old new : PassView) (o : Option ℤ) → old.standing.pending ≡ Nothing → PassStep g (events.Look s) old new (looked o) → new ≡ old
look_leaves s old new o idle step = step.learned
    ∙ counted old _ old.standing.held _ 0 _ Nothing (omega arith) (ap won (sym step.answered) ∙ look_wins_none o) (ap pending_after (sym step.answered) ∙ look_owes_none o)
    ∙ calm old idle

-- the exchange was won if the slot was open with the delta that was seen
won_is : (b found : Bool) → exchanged b ≡ (if found then Won else Lost) → found ≡ b
won_is true true is = refl
won_is true false is = cc
won_is false true is = cc
won_is false false is = refl

opens : (d : ℤ) (t : Slot) → is_open_with d t ≡ true → (e : ℤ) × (t ≡ Open e)
opens d Closed is = cc
opens d (Open e) is = (e, refl)

open_then : {g : GateFacts} (s : ℕ) (old : PassView) (m : Moment g (OfPass old)) → s < g.slots → (e : ℤ) × (slot_at m.cells.slots s ≡ Open e) → OpenMoment g s old
open_then s old m there open_ = let sizes = m.slots in let clear = (moment_knows old m).clear_while_open s open_.0 (omega arith) open_.1 in
    record { moment = m; open_there = ap is_open open_.1; zero_clear = clear.0; even = clear.1 }

begun_by : (held : ℕ) (rs : List WordRead) (b : Bool) → (held == 0) ≡ b → ((if held == 0 then [] else rs) ≡ rs) ⊎ ((held ≡ 0) × ((if held == 0 then [] else rs) ≡ []))
begun_by held rs true is = inr (grind (arith, nat_tests), ap (λ (b : Bool). if b then [] else rs) is)
begun_by held rs false is = inl (ap (λ (b : Bool). if b then [] else rs) is)

begun_is : (held : ℕ) (rs : List WordRead) → ((if held == 0 then [] else rs) ≡ rs) ⊎ ((held ≡ 0) × ((if held == 0 then [] else rs) ≡ []))
begun_is held rs = begun_by held rs (held == 0) refl

module _ (s : ℕ) (d : ℤ) (n : ℕ) (old : PassView) where
  abbrev reply_by : Bool → Reply
  reply_by b = if b then Won else Lost

  abbrev after_take : Bool → PassView
  after_take b = record old {
    standing = record { held = old.standing.held + given (events.Take s d n) (reply_by b) - dropped (events.Take s d n) (reply_by b); pending = pending_after (reply_by b) };
    read = begun old;
    floor = if b then next_even old.floor else old.floor;
    live_given = if b then old.live_given + 1 else old.live_given;
    releases = old.releases + won (reply_by b);
    found_dead = old.found_dead || false;
    found_zero = old.found_zero || false;
  }

  after_won : after_take true ≡ taken_on_slot n old
  after_won = λ j. record old {
    standing = record { held = held j; pending = Nothing };
    read = begun old;
    floor = next_even old.floor;
    live_given = old.live_given + 1;
    releases = none_more j;
    found_dead = or_false old.found_dead j;
    found_zero = or_false old.found_zero j;
  }
    where
      held : old.standing.held + n - 0 ≡ old.standing.held + n
      held = omega arith

      none_more : old.releases + 0 ≡ old.releases
      none_more = omega arith

  after_lost : old.standing.pending ≡ Nothing → after_take false ≡ record old { read = begun old }
  after_lost idle = λ j. record old {
    standing = record { held = held j; pending = sym idle j };
    read = begun old;
    releases = none_more j;
    found_dead = or_false old.found_dead j;
    found_zero = or_false old.found_zero j;
  }
    where
      held : old.standing.held + 0 - 0 ≡ old.standing.held
      held = omega arith

      none_more : old.releases + 0 ≡ old.releases
      none_more = omega arith

  abbrev Leaves : PassView → Type 0
  Leaves new = (new ≡ old) ⊎ ((old.standing.held ≡ 0) × (new ≡ record old { read = [] }))

  reads_what : (new : PassView) → new ≡ record old { read = begun old } → Leaves new
  reads_what new is = either_way (begun_is old.standing.held old.read)
    where
      either_way : (begun old ≡ old.read) ⊎ ((old.standing.held ≡ 0) × (begun old ≡ [])) → Leaves new
      either_way (inl same) = inl (is ∙ ap (λ (rs : List WordRead). record old { read = rs }) same)
      either_way (inr none) = inr (none.0, is ∙ ap (λ (rs : List WordRead). record old { read = rs }) none.1)

  take_left : {g : GateFacts} (new : PassView) (b : Bool) → s < g.slots → old.standing.pending ≡ Nothing → PassStep g (events.Take s d n) old new (exchanged b) → SlotTake g s n old new b
  take_left new b there idle step = let found : is_open_with d (slot_at step.moment.cells.slots s) ≡ b = won_is b (is_open_with d (slot_at step.moment.cells.slots s)) step.answered in record {
    moment = λ is_won. open_then s old step.moment there (opens d (slot_at step.moment.cells.slots s) (found ∙ is_won));
    won = λ is_won. step.learned ∙ ap after_take (found ∙ is_won) ∙ after_won;
    not_won = λ lost. reads_what new (step.learned ∙ ap after_take (found ∙ lost) ∙ after_lost idle);
  }

-- a look, and the exchange after it
pub look_and_take : {g : GateFacts} (s : ℕ) (d : ℤ) (n : ℕ) (old mid new : PassView) (b : Bool) → s < g.slots → old.standing.pending ≡ Nothing → mid ≡ old → PassStep g (events.Take s d n) mid new (exchanged b)
    → SlotTake g s n old new b
look_and_take {g} s d n old mid new b there idle same step = take_left s d n old new b there idle (subst (λ (v : PassView). PassStep g (events.Take s d n) v new (exchanged b)) same step)

-- a look alone
pub look_alone : {g : GateFacts} (s n : ℕ) (old mid : PassView) → mid ≡ old → SlotTake g s n old mid false
look_alone s n old mid same = record { moment = λ is_won. cc; won = λ is_won. cc; not_won = λ lost. inl same }

sees_set : (views : List View) (i : ℕ) (v w : View) → get_elem? views i ≡ some v → get_elem? (set views i w) i ≡ some w
sees_set [] i v w at = cc
sees_set (x ∷ xs) zero v w at = refl
sees_set (x ∷ xs) (suc i) v w at = sees_set xs i v w at

-- what a moment after a take that wasn't won shows, one before it shows as well
pub moment_before : (g : GateFacts) (old mid : PassView) → (mid ≡ old) ⊎ ((old.standing.held ≡ 0) × (mid ≡ record old { read = [] })) → (m : Moment g (OfPass mid)) → (before : Moment g (OfPass old)) × (before.cells ≡ m.cells)
moment_before g old mid (inl is) m = (
  record {
    cells = m.cells;
    slots = m.slots;
    guarded = m.guarded;
    views = m.views;
    seat = m.seat;
    lawful = m.lawful;
    sees = m.sees ∙ ap (λ (v : PassView). some (OfPass v)) is;
  },
  refl,
)
moment_before g old mid (inr none) m = (
  record {
    cells = m.cells;
    slots = m.slots;
    guarded = m.guarded;
    views = set m.views m.seat (OfPass (record mid { read = old.read }));
    seat = m.seat;
    lawful = reads_anything _ m.cells m.views m.seat mid old.read m.lawful m.sees (ap (λ (v : PassView). v.standing.held) none.1 ∙ none.0);
    sees = sees_set m.views m.seat (OfPass mid) (OfPass (record mid { read = old.read })) m.sees ∙ ap (λ (v : PassView). some (OfPass (record v { read = old.read }))) none.1;
  },
  refl,
)

-- what a give leaves
module _ (s : ℕ) (d : ℤ) (n : ℕ) (old : PassView) where
  abbrev after_give : Bool → PassView
  after_give b = record old {
    standing = record { held = old.standing.held + given (events.Give s d n) (reply_by s d n old b) - dropped (events.Give s d n) (reply_by s d n old b); pending = pending_after (reply_by s d n old b) };
    releases = old.releases + won (reply_by s d n old b);
    found_dead = old.found_dead || false;
    found_zero = old.found_zero || false;
  }

  none_won : old.releases + 0 ≡ old.releases
  none_won = omega arith

  given_back : after_give true ≡ record old { standing = holding (old.standing.held - n) }
  given_back = λ j. record old { standing = record { held = held j; pending = Nothing }; releases = none_won j; found_dead = or_false old.found_dead j; found_zero = or_false old.found_zero j }
    where
      held : old.standing.held + 0 - n ≡ old.standing.held - n
      held = omega arith

  kept_all : old.standing.pending ≡ Nothing → after_give false ≡ old
  kept_all idle = λ j. record old { standing = record { held = held j; pending = sym idle j }; releases = none_won j; found_dead = or_false old.found_dead j; found_zero = or_false old.found_zero j }
    where
      held : old.standing.held + 0 - 0 ≡ old.standing.held
      held = omega arith

  give_left : {g : GateFacts} (new : PassView) (b : Bool) → old.standing.pending ≡ Nothing → PassStep g (events.Give s d n) old new (exchanged b) → new ≡ (if b then record old { standing = holding (old.standing.held - n) } else old)
  give_left new true idle step = step.learned ∙ ap after_give (won_is true (is_open_with d (slot_at step.moment.cells.slots s)) step.answered) ∙ given_back
  give_left new false idle step = step.learned ∙ ap after_give (won_is false (is_open_with d (slot_at step.moment.cells.slots s)) step.answered) ∙ kept_all idle

pub look_and_give : {g : GateFacts} (s : ℕ) (d : ℤ) (n : ℕ) (old mid new : PassView) (b : Bool) → old.standing.pending ≡ Nothing → mid ≡ old → PassStep g (events.Give s d n) mid new (exchanged b)
    → new ≡ (if b then record old { standing = holding (old.standing.held - n) } else old)
look_and_give {g} s d n old mid new b idle same step = give_left s d n old new b idle (subst (λ (v : PassView). PassStep g (events.Give s d n) v new (exchanged b)) same step)
