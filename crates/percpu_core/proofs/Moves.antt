-- Each enabled event as a move of the plain counter.
use Rattle.std.proofs.Common.{◌≡◌, ℕ, ◌+◌, ◌-◌, ◌≤◌, Bool, true, false, not, ◌==◌, ◌||◌, if◌then◌else◌, length, set, get_or, Option, Some, None, refl, arith, ap, sym, ◌∙◌, subst}
use Rattle.std.specs.Prelude.{ℤ}
use mathlib.Core.Option.{some}
use lib.ListN.{get_elem?}
use Rattle.percpu_core.specs.declared.event.Event.{Event}
use Rattle.percpu_core.specs.declared.event.Event.TheVariants.{Pass, Control}
use Rattle.percpu_core.specs.declared.pass_event.PassEvent.{PassEvent}
use Rattle.percpu_core.specs.declared.pass_event.PassEvent.TheVariants as pass
use Rattle.percpu_core.specs.declared.control_event.ControlEvent.{ControlEvent}
use Rattle.percpu_core.specs.declared.control_event.ControlEvent.TheVariants as control
use Rattle.percpu_core.specs.declared.phase.Phase.{Phase}
use Rattle.percpu_core.specs.declared.phase.Phase.TheVariants.{LiveSlots, LiveAtomic, Closing, Collected, Confirmed, Dead, Reviving, Fronted, Opening}
use Rattle.percpu_core.specs.declared.reply.Reply.{Reply}
use Rattle.percpu_core.specs.declared.reply.Reply.TheVariants.{Given, Refused, NotLast, ToMark, Last, Lost, Won}
use Rattle.percpu_core.specs.declared.not_enabled.NotEnabled.{NotEnabled}
use Rattle.percpu_core.specs.declared.not_enabled.NotEnabled.TheVariants.{NoSuchActor, NoSuchSlot, WrongPhase, NothingHeld, StillHeld}
use Rattle.percpu_core.specs.declared.pass_standing.PassStanding.{PassStanding}
use Rattle.percpu_core.specs.declared.view.PassView.{PassView}
use Rattle.percpu_core.specs.declared.view.View.{View}
use Rattle.percpu_core.specs.declared.view.View.TheVariants.{OfPass, Spent}
use Rattle.percpu_core.specs.declared.slot.Slot.{Slot}
use Rattle.percpu_core.specs.declared.slot.Slot.TheVariants.{Closed, Open}
use Rattle.percpu_core.specs.Cells.{sizes_of, slot_at, is_open_with, is_dead_alone}
use Rattle.percpu_core.specs.Phases.{holds_base, is_dead_in, next_slot}
use Rattle.percpu_core.specs.Views.{count, held_by_all}
use Rattle.percpu_core.specs.ReleaseLaw.{Origin}
use Rattle.percpu_core.specs.PlainCounter.{PlainCounter, Move, take, release}
use Rattle.percpu_core.specs.CounterMoves.{counter_of, move_of_pass, move_of_control, move_of, MayMove}
use Rattle.percpu_core.specs.PassSteps.{hinders_pass, look_reply, pass_reply, given, dropped}
use Rattle.percpu_core.specs.PassLearns.{pass_view_after}
use Rattle.percpu_core.specs.Machine.{IsEnabled, pass_at, pass_refusal, refusal, reply, after, held_in_all}
use Rattle.percpu_core.specs.ControlSteps.{has_slot_to_close, has_closed_all, is_opening, hinders_control, phase_after, control_reply}
use Rattle.percpu_core.specs.Snapshots.{Snapshot, view_after, control_taking, snapshot_after, kept}
use Rattle.percpu_core.proofs.Passes.{over_passes-set, over_passes-at}
use Rattle.percpu_core.proofs.Counting.{value-least}
use Rattle.percpu_core.proofs.PassKeeps.{alone, alone_is_unheld}
use Rattle.percpu_core.proofs.PassEvents.{zero_dead}
use Rattle.percpu_core.proofs.Flags.{true_not_false, or_right, or_false}
use Rattle.percpu_core.proofs.SlotLists.{open_with}
use Rattle.percpu_core.proofs.SlotEvents.{clear as slot_clear}
use Rattle.percpu_core.proofs.Enabled.{no_reason, not_lt, not_le, only, live}
use Rattle.percpu_core.proofs.Kept.{Holds, seat, event_goes}
use Rattle.percpu_core.proofs.HeldByAll.{held_same}

-- the plain counter of a snapshot
abbrev seen : Snapshot → PlainCounter
seen m = record { held = held_by_all m.others; base = holds_base m.control.standing.phase; dead = m.cells.shared.dead; released = m.cells.shared.zero }

seen_is : (m : Snapshot) → counter_of (kept m) ≡ seen m
seen_is m = λ j. record (seen m) { held = held_same m.others j }

no_base : (b : Bool) → count b ≡ 0 → b ≡ false
no_base true h = absurd (omega arith)
no_base false h = refl

-- the initial reference is in while slots are closed, collected and opened
closing_base : (slots : ℕ) (x : Phase) → not (has_slot_to_close slots x) ≡ false → holds_base x ≡ true
closing_base slots LiveSlots h = refl
closing_base slots (Closing i) h = refl
closing_base slots LiveAtomic h = cc
closing_base slots Collected h = cc
closing_base slots Confirmed h = cc
closing_base slots Dead h = cc
closing_base slots Reviving h = cc
closing_base slots Fronted h = cc
closing_base slots (Opening i) h = cc

collecting_base : (slots : ℕ) (x : Phase) → not (has_closed_all slots x) ≡ false → holds_base x ≡ true
collecting_base slots (Closing i) h = refl
collecting_base slots LiveSlots h = cc
collecting_base slots LiveAtomic h = cc
collecting_base slots Collected h = cc
collecting_base slots Confirmed h = cc
collecting_base slots Dead h = cc
collecting_base slots Reviving h = cc
collecting_base slots Fronted h = cc
collecting_base slots (Opening i) h = cc

opening_base : (x : Phase) → not (is_opening x) ≡ false → holds_base x ≡ true
opening_base (Opening i) h = refl
opening_base LiveSlots h = cc
opening_base LiveAtomic h = cc
opening_base (Closing i) h = cc
opening_base Collected h = cc
opening_base Confirmed h = cc
opening_base Dead h = cc
opening_base Reviving h = cc
opening_base Fronted h = cc

either_base : (b : Bool) → holds_base (if b then Collected else LiveAtomic) ≡ true
either_base true = refl
either_base false = refl

opened_base : (b : Bool) (i : ℕ) → holds_base (if b then LiveSlots else Opening i) ≡ true
opened_base true i = refl
opened_base false i = refl

module _ (o : Origin) (m : Snapshot) (l : Holds o m) where
  abbrev zero : Bool
  zero = m.cells.shared.zero

  pub alone_is_without_base : is_dead_alone m.cells.shared ≡ true → holds_base m.control.standing.phase ≡ false
  alone_is_without_base h = let none = (alone m.cells.shared h).2 in let least = value-least o m.cells m.control m.others l in no_base (holds_base m.control.standing.phase) (omega arith)

  -- a mark that finds DEAD alone is the release, and any other changes nothing
  marks : (move : Reply → Option Move) → move Last ≡ Some release → move Lost ≡ None → (held : ℕ) → held ≡ held_by_all m.others → (b : Bool) → is_dead_alone m.cells.shared ≡ b
      → MayMove (seen m) (move (if b then Last else Lost)) (record (seen m) { held = held; released = zero || b })
  marks move wins loses held same true is = let a = alone m.cells.shared is in
      rw wins (a.1, alone_is_without_base is, alone_is_unheld o m.cells m.control m.others l is, a.0, λ j. record (seen m) { held = same j; released = or_right zero j })
  marks move wins loses held same false is = rw loses (λ j. record (seen m) { held = same j; released = or_false zero j })

  clear_if : (b : Bool) → zero ≡ b → (b ≡ true → ⊥) → zero ≡ false
  clear_if true is h = absurd (h refl)
  clear_if false is h = is

  -- ZERO comes with DEAD
  set_dead : zero ≡ true → m.cells.shared.dead ≡ true
  set_dead z = l.phase.dead ∙ zero_dead m.control.standing.phase m.control.killing (l.zero.after_drop z)

  live_is_clear : m.cells.shared.dead ≡ false → zero ≡ false
  live_is_clear d = clear_if zero refl (λ z. true_not_false (sym (set_dead z) ∙ d))

  module _ (k : ℕ) (p : PassView) (at : get_elem? m.others k ≡ some (OfPass p)) (place : get_or m.others k Spent ≡ OfPass p) where
    held_now : (e : PassEvent) → dropped e (pass_reply e m.cells) ≤ p.standing.held
        → held_by_all (set m.others k (view_after e m.cells (get_or m.others k Spent))) ≡ held_by_all m.others + given e (pass_reply e m.cells) - dropped e (pass_reply e m.cells)
    held_now e holds = let r = pass_reply e m.cells in
        let changed = over_passes-set (λ p. p.standing.held) m.others k (OfPass p) (OfPass (pass_view_after e m.cells p)) at in
        let mine = over_passes-at (λ p. p.standing.held) m.others k (OfPass p) at in
        let is = ap (λ (v : View). held_by_all (set m.others k (view_after e m.cells v))) place in omega arith

    nothing_dropped : (e : PassEvent) → dropped e (pass_reply e m.cells) ≡ 0 → held_by_all (set m.others k (view_after e m.cells (get_or m.others k Spent))) ≡ held_by_all m.others + given e (pass_reply e m.cells)
    nothing_dropped e none = let n = held_now e (omega arith) in omega arith

    abbrev Free : PassEvent → Type 0
    Free e = IsEnabled (hinders_pass (sizes_of m.cells) p.standing e)

    abbrev After : PassEvent → Type 0
    After e = MayMove (seen m) (move_of_pass e (pass_reply e m.cells)) (seen (snapshot_after m (Pass k e)))

    tries : (e : PassEvent) (b : Bool) → (b ≡ false → zero ≡ false) → (held : ℕ) → held ≡ held_by_all m.others + given e (if b then Refused else Given)
        → move_of_pass e Refused ≡ None → move_of_pass e Given ≡ Some (take 1) → given e Refused ≡ 0 → given e Given ≡ 1
        → MayMove (seen m) (move_of_pass e (if b then Refused else Given)) (record (seen m) { held = held })
    tries e true clear held is refused gives r g = rw refused (let same : held ≡ held_by_all m.others = omega arith in λ j. record (seen m) { held = same j })
    tries e false clear held is refused gives r g = rw gives (clear refl, let more : held ≡ held_by_all m.others + 1 = omega arith in λ j. record (seen m) { held = more j })

    -- an exchange that is won takes or drops, and one that is lost changes nothing
    dropped_none : (w : ℕ) (d : ℤ) (n : ℕ) (b : Bool) → dropped (pass.Take w d n) (if b then Won else Lost) ≤ p.standing.held
    dropped_none w d n true = omega arith
    dropped_none w d n false = omega arith

    dropped_few : (w : ℕ) (d : ℤ) (n : ℕ) (b : Bool) → n ≤ p.standing.held → dropped (pass.Give w d n) (if b then Won else Lost) ≤ p.standing.held
    dropped_few w d n true h = h
    dropped_few w d n false h = omega arith

    takes : (w : ℕ) (d : ℤ) (n : ℕ) (b : Bool) → (b ≡ true → zero ≡ false) → (held : ℕ)
        → held ≡ held_by_all m.others + given (pass.Take w d n) (if b then Won else Lost) - dropped (pass.Take w d n) (if b then Won else Lost)
        → MayMove (seen m) (move_of_pass (pass.Take w d n) (if b then Won else Lost)) (record (seen m) { held = held })
    takes w d n true clear held is = let more : held ≡ held_by_all m.others + n = omega arith in (clear refl, λ j. record (seen m) { held = more j })
    takes w d n false clear held is = let same : held ≡ held_by_all m.others = omega arith in λ j. record (seen m) { held = same j }

    gives : (w : ℕ) (d : ℤ) (n : ℕ) (b : Bool) → n ≤ held_by_all m.others → (held : ℕ)
        → held ≡ held_by_all m.others + given (pass.Give w d n) (if b then Won else Lost) - dropped (pass.Give w d n) (if b then Won else Lost)
        → MayMove (seen m) (move_of_pass (pass.Give w d n) (if b then Won else Lost)) (record (seen m) { held = held })
    gives w d n true holds held is = let less : held ≡ held_by_all m.others - n = omega arith in (holds, λ j. record (seen m) { held = less j })
    gives w d n false holds held is = let same : held ≡ held_by_all m.others = omega arith in λ j. record (seen m) { held = same j }

    free : (e : PassEvent) → Free e → (why : NotEnabled) → hinders_pass (sizes_of m.cells) p.standing e why ≡ false
    free e h = no_reason (hinders_pass (sizes_of m.cells) p.standing e) h

    moves_pass : (e : PassEvent) → Free e → After e
    moves_pass pass.AddTry h = tries pass.AddTry zero (λ h. h) _ (nothing_dropped pass.AddTry refl) refl refl refl refl
    moves_pass pass.AddLive h = tries pass.AddLive m.cells.shared.dead live_is_clear _ (nothing_dropped pass.AddLive refl) refl refl refl refl
    moves_pass (pass.AddGet n) h = let holds = not_lt p.standing.held 1 (free (pass.AddGet n) h NothingHeld) in let mine = over_passes-at (λ p. p.standing.held) m.others k (OfPass p) at in
        (clear_if zero refl (λ z. let none = l.zero.nothing_held z in absurd (omega arith)), λ j. record (seen m) { held = nothing_dropped (pass.AddGet n) refl j })
    moves_pass (pass.Sub n) h = let holds = not_lt p.standing.held n (free (pass.Sub n) h NothingHeld) in let mine = over_passes-at (λ p. p.standing.held) m.others k (OfPass p) at in
        let fewer = held_now (pass.Sub n) holds in let less : held_by_all (set m.others k (view_after (pass.Sub n) m.cells (get_or m.others k Spent))) ≡ held_by_all m.others - n = omega arith in
        (omega arith, λ j. record (seen m) { held = less j })
    moves_pass pass.Undo h = let n = nothing_dropped pass.Undo refl in let same : held_by_all (set m.others k (view_after pass.Undo m.cells (get_or m.others k Spent))) ≡ held_by_all m.others = omega arith in λ j. record (seen m) { held = same j }
    moves_pass pass.Mark h = let n = nothing_dropped pass.Mark refl in marks (move_of_pass pass.Mark) refl refl _ (omega arith) (is_dead_alone m.cells.shared) refl
    moves_pass (pass.Look w) h = let n = nothing_dropped (pass.Look w) refl in let same : held_by_all (set m.others k (view_after (pass.Look w) m.cells (get_or m.others k Spent))) ≡ held_by_all m.others = omega arith in λ j. record (seen m) { held = same j }
    moves_pass (pass.Take w d n) h = takes w d n (is_open_with d (slot_at m.cells.slots w)) (λ finds. slot_clear o m.cells m.control m.others l w d (not_le (length m.cells.slots) w (free (pass.Take w d n) h NoSuchSlot)) (open_with d (slot_at m.cells.slots w) finds)) _
        (held_now (pass.Take w d n) (dropped_none w d n (is_open_with d (slot_at m.cells.slots w))))
    moves_pass (pass.Give w d n) h = let holds = not_lt p.standing.held n (free (pass.Give w d n) h NothingHeld) in let mine = over_passes-at (λ p. p.standing.held) m.others k (OfPass p) at in
        gives w d n (is_open_with d (slot_at m.cells.slots w)) (omega arith) _ (held_now (pass.Give w d n) (dropped_few w d n (is_open_with d (slot_at m.cells.slots w)) holds))
    moves_pass pass.LookShared h = let n = nothing_dropped pass.LookShared refl in let same : held_by_all (set m.others k (view_after pass.LookShared m.cells (get_or m.others k Spent))) ≡ held_by_all m.others = omega arith in λ j. record (seen m) { held = same j }
    moves_pass pass.LoadFront h = let n = nothing_dropped pass.LoadFront refl in let same : held_by_all (set m.others k (view_after pass.LoadFront m.cells (get_or m.others k Spent))) ≡ held_by_all m.others = omega arith in λ j. record (seen m) { held = same j }
    moves_pass (pass.LoadWord w) h = let n = nothing_dropped (pass.LoadWord w) refl in let same : held_by_all (set m.others k (view_after (pass.LoadWord w) m.cells (get_or m.others k Spent))) ≡ held_by_all m.others = omega arith in λ j. record (seen m) { held = same j }

  abbrev FreeControl : ControlEvent → Type 0
  FreeControl e = IsEnabled (hinders_control (sizes_of m.cells) zero None m.control.standing e)

  free_control : (e : ControlEvent) → FreeControl e → (why : NotEnabled) → hinders_control (sizes_of m.cells) zero None m.control.standing e why ≡ false
  free_control e h = no_reason (hinders_control (sizes_of m.cells) zero None m.control.standing e) h

  abbrev AfterControl : ControlEvent → Type 0
  AfterControl e = MayMove (seen m) (move_of_control e (control_reply e m.control.standing m.cells)) (seen (snapshot_after m (Control e)))

  dead_in : (x : Phase) → m.control.standing.phase ≡ x → m.cells.shared.dead ≡ is_dead_in x m.control.killing
  dead_in x is = l.phase.dead ∙ ap (λ x. is_dead_in x m.control.killing) is

  dies : (x y : Phase) → m.control.standing.phase ≡ x → phase_after control.MarkDead (length m.cells.slots) m.cells.shared.dead x ≡ y → is_dead_in x m.control.killing ≡ false → holds_base y ≡ holds_base x → AfterControl control.MarkDead
  dies x y is next clear base = (dead_in x is ∙ clear, λ j. record (seen m) { dead = true; base = (ap (λ x. holds_base (phase_after control.MarkDead (length m.cells.slots) m.cells.shared.dead x)) is ∙ ap holds_base next ∙ base ∙ sym (ap holds_base is)) j })

  moves_control : (e : ControlEvent) → ((k : ℕ) → e ≡ control.Join k → ⊥) → FreeControl e → AfterControl e
  moves_control control.MarkDead n h = live m.control.standing.phase (λ is. dies LiveAtomic Collected is refl refl refl) (λ is. dies LiveSlots (Closing 0) is refl refl refl) (free_control control.MarkDead h WrongPhase)
  moves_control control.Close n h = let in_it = closing_base (length m.cells.slots) m.control.standing.phase (free_control control.Close h WrongPhase) in λ j. record (seen m) { base = sym in_it j }
  moves_control control.Collect n h = let in_it = collecting_base (length m.cells.slots) m.control.standing.phase (free_control control.Collect h WrongPhase) in λ j. record (seen m) { base = (either_base m.cells.shared.dead ∙ sym in_it) j }
  moves_control control.AddBias n h = let is = only LiveAtomic m.control.standing.phase (free_control control.AddBias h WrongPhase) in λ j. record (seen m) { base = sym (ap holds_base is) j }
  moves_control control.OpenNext n h = let in_it = opening_base m.control.standing.phase (free_control control.OpenNext h WrongPhase) in λ j. record (seen m) { base = (opened_base (next_slot m.control.standing.phase + 1 == length m.cells.slots) (next_slot m.control.standing.phase + 1) ∙ sym in_it) j }
  moves_control control.Confirm n h = let is = only Collected m.control.standing.phase (free_control control.Confirm h WrongPhase) in λ j. record (seen m) { base = sym (ap holds_base is) j }
  moves_control control.DropBase n h = let is = only Confirmed m.control.standing.phase (free_control control.DropBase h WrongPhase) in (dead_in Confirmed is, ap holds_base is, refl)
  moves_control control.Mark n h = marks (move_of_control control.Mark) refl refl (held_by_all m.others) refl (is_dead_alone m.cells.shared) refl
  moves_control control.TakeBase n h = let is = only Dead m.control.standing.phase (free_control control.TakeBase h WrongPhase) in (dead_in Dead is, ap holds_base is, refl)
  moves_control control.NextFront n h = let is = only Reviving m.control.standing.phase (free_control control.NextFront h WrongPhase) in λ j. record (seen m) { base = sym (ap holds_base is) j }
  moves_control control.ClearDead n h = let is = only Fronted m.control.standing.phase (free_control control.ClearDead h WrongPhase) in
      (dead_in Fronted is, ap holds_base is, λ j. record (seen m) { base = sym (ap holds_base is) j; dead = false; released = false })
  moves_control (control.StoreWord k v) n h = refl
  moves_control (control.Join k) n h = absurd (n k refl)
  moves_control control.LookShared n h = refl

  -- taking in a pass that holds nothing changes none of the four facts
  moves_join : (k : ℕ) (q : Option PassStanding) → pass_at (kept m) k ≡ q → IsEnabled (hinders_control (sizes_of m.cells) zero q m.control.standing (control.Join k))
      → seen (snapshot_after m (Control (control.Join k))) ≡ seen m
  moves_join k None is h = let there = no_reason (hinders_control (sizes_of m.cells) zero None m.control.standing (control.Join k)) h NoSuchActor in cc
  moves_join k (Some q) is h = let s = seat m.others k q is in let p : PassView = s.view in
      let none = not_lt 0 q.held (no_reason (hinders_control (sizes_of m.cells) zero (Some q) m.control.standing (control.Join k)) h StillHeld) in
      let stands = ap (λ (q : PassStanding). q.held) s.stands in
      let changed = over_passes-set (λ p. p.standing.held) m.others k (OfPass p) Spent s.at in
      let same : held_by_all (set m.others k Spent) ≡ held_by_all m.others = omega arith in
      λ j. record (seen m) { held = same j; base = ap (λ (v : View). holds_base (control_taking v m.control).standing.phase) s.place j }

  pass_moves : (k : ℕ) (e : PassEvent) (q : Option PassStanding) → pass_at (kept m) k ≡ q → pass_refusal m.cells q e ≡ None
      → MayMove (seen m) (move_of_pass e (pass_reply e m.cells)) (seen (snapshot_after m (Pass k e)))
  pass_moves k e None is h = cc
  pass_moves k e (Some q) is h = let s = seat m.others k q is in
      moves_pass k s.view s.at s.place e (subst (λ (q : PassStanding). IsEnabled (hinders_pass (sizes_of m.cells) q e)) (sym s.stands) h)

  moves_seen : (e : Event) → refusal (kept m) e ≡ None → MayMove (seen m) (move_of e (reply (kept m) e)) (seen (snapshot_after m e))
  moves_seen (Pass k e) h = pass_moves k e (pass_at (kept m) k) refl h
  moves_seen (Control (control.Join k)) h = moves_join k (pass_at (kept m) k) refl h
  moves_seen (Control control.MarkDead) h = moves_control control.MarkDead (λ i is. cc) h
  moves_seen (Control control.Close) h = moves_control control.Close (λ i is. cc) h
  moves_seen (Control control.Collect) h = moves_control control.Collect (λ i is. cc) h
  moves_seen (Control control.AddBias) h = moves_control control.AddBias (λ i is. cc) h
  moves_seen (Control control.OpenNext) h = moves_control control.OpenNext (λ i is. cc) h
  moves_seen (Control control.Confirm) h = moves_control control.Confirm (λ i is. cc) h
  moves_seen (Control control.DropBase) h = moves_control control.DropBase (λ i is. cc) h
  moves_seen (Control control.Mark) h = moves_control control.Mark (λ i is. cc) h
  moves_seen (Control control.TakeBase) h = moves_control control.TakeBase (λ i is. cc) h
  moves_seen (Control control.NextFront) h = moves_control control.NextFront (λ i is. cc) h
  moves_seen (Control control.ClearDead) h = moves_control control.ClearDead (λ i is. cc) h
  moves_seen (Control (control.StoreWord k v)) h = moves_control (control.StoreWord k v) (λ i is. cc) h
  moves_seen (Control control.LookShared) h = moves_control control.LookShared (λ i is. cc) h

  pub event_moves : (e : Event) → refusal (kept m) e ≡ None → MayMove (counter_of (kept m)) (move_of e (reply (kept m) e)) (counter_of (after (kept m) e))
  event_moves e h = subst (λ (x : PlainCounter × PlainCounter). MayMove x.0 (move_of e (reply (kept m) e)) x.1)
      (λ j. (sym (seen_is m) j, (sym (seen_is (snapshot_after m e)) ∙ ap counter_of (event_goes o m l e h).1) j)) (moves_seen e h)

  -- the seat that wins the release has found DEAD alone
  left_no_last : {P : Type 0} (b : Bool) → (if b then ToMark else NotLast) ≡ Last → P
  left_no_last true h = cc
  left_no_last false h = cc

  tried_no_last : {P : Type 0} (b : Bool) → (if b then Refused else Given) ≡ Last → P
  tried_no_last true h = cc
  tried_no_last false h = cc

  looked_no_last : {P : Type 0} (s : Slot) → look_reply s ≡ Last → P
  looked_no_last Closed h = cc
  looked_no_last (Open d) h = cc

  exchanged_no_last : {P : Type 0} (b : Bool) → (if b then Won else Lost) ≡ Last → P
  exchanged_no_last true h = cc
  exchanged_no_last false h = cc

  mark_wins : (b : Bool) → (if b then Last else Lost) ≡ Last → b ≡ true
  mark_wins true h = refl
  mark_wins false h = cc

  pass_wins : (e : PassEvent) → pass_reply e m.cells ≡ Last → is_dead_alone m.cells.shared ≡ true
  pass_wins pass.AddTry h = tried_no_last zero h
  pass_wins pass.AddLive h = tried_no_last m.cells.shared.dead h
  pass_wins (pass.AddGet n) h = cc
  pass_wins (pass.Sub n) h = left_no_last _ h
  pass_wins pass.Undo h = left_no_last _ h
  pass_wins pass.Mark h = mark_wins _ h
  pass_wins (pass.Look s) h = looked_no_last (slot_at m.cells.slots s) h
  pass_wins (pass.Take s d n) h = exchanged_no_last (is_open_with d (slot_at m.cells.slots s)) h
  pass_wins (pass.Give s d n) h = exchanged_no_last (is_open_with d (slot_at m.cells.slots s)) h
  pass_wins pass.LookShared h = cc
  pass_wins pass.LoadFront h = cc
  pass_wins (pass.LoadWord k) h = cc

  control_wins : (e : ControlEvent) → control_reply e m.control.standing m.cells ≡ Last → is_dead_alone m.cells.shared ≡ true
  control_wins control.MarkDead h = cc
  control_wins control.Close h = cc
  control_wins control.Collect h = cc
  control_wins control.AddBias h = cc
  control_wins control.OpenNext h = cc
  control_wins control.Confirm h = cc
  control_wins control.DropBase h = left_no_last _ h
  control_wins control.Mark h = mark_wins _ h
  control_wins control.TakeBase h = cc
  control_wins control.NextFront h = cc
  control_wins control.ClearDead h = cc
  control_wins (control.StoreWord k v) h = cc
  control_wins (control.Join k) h = cc
  control_wins control.LookShared h = cc

  wins : (e : Event) → reply (kept m) e ≡ Last → is_dead_alone m.cells.shared ≡ true
  wins (Pass k e) h = pass_wins e h
  wins (Control e) h = control_wins e h

  pub released_at_zero : (e : Event) → reply (kept m) e ≡ Last → (holds_base (kept m).control.phase ≡ false) × (held_in_all (kept m) ≡ 0)
  released_at_zero e h = let at = wins e h in (alone_is_without_base at, held_same m.others ∙ alone_is_unheld o m.cells m.control m.others l at)
