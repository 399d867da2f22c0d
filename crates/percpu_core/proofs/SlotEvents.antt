-- Each event of a pass on a slot keeps the laws: a look, and the exchanges that take and give back.
use Rattle.std.proofs.Common.{◌≡◌, ℕ, ◌+◌, ◌%◌, ◌<◌, ◌≤◌, inl, inr, Bool, true, false, if◌then◌else◌, List, length, set, refl, arith, ap, sym, ◌∙◌}
use Rattle.std.specs.Prelude.{ℤ, pos, ◌+ℤ◌, ◌-ℤ◌}
use Rattle.std.proofs.Math.ListN.{length-set}
use Rattle.std.proofs.lemmas.Int.{ints}
use mathlib.Core.Option.{some}
use lib.ListN.{get_elem?}
use Rattle.percpu_words.specs.SlotWord.{IsDelta}
use Rattle.percpu_core.specs.declared.limits.TheConstants.{HELD_LIMIT}
use Rattle.percpu_core.specs.declared.slot.Slot.{Slot}
use Rattle.percpu_core.specs.declared.slot.Slot.TheVariants.{Closed, Open}
use Rattle.percpu_core.specs.declared.pass_event.PassEvent.{PassEvent}
use Rattle.percpu_core.specs.declared.pass_event.PassEvent.TheVariants.{Look, Take, Give}
use Rattle.percpu_core.specs.declared.phase.Phase.{Phase}
use Rattle.percpu_core.specs.declared.phase.Phase.TheVariants.{LiveSlots, LiveAtomic, Closing, Collected, Confirmed, Dead, Reviving, Fronted, Opening}
use Rattle.percpu_core.specs.declared.reply.Reply.{Reply}
use Rattle.percpu_core.specs.declared.reply.Reply.TheVariants.{Won, Lost}
use Rattle.percpu_core.specs.declared.pass_standing.Pending.TheVariants.{Nothing}
use Rattle.percpu_core.specs.declared.view.PassView.{PassView}
use Rattle.percpu_core.specs.declared.view.ControlView.{ControlView}
use Rattle.percpu_core.specs.declared.view.View.{View}
use Rattle.percpu_core.specs.declared.view.View.TheVariants.{OfPass}
use Rattle.percpu_core.specs.Cells.{Cells, is_open, delta, open_deltas, slot_at, is_open_with}
use Rattle.percpu_core.specs.Phases.{may_be_zero, has_odd_front, is_open_in}
use Rattle.percpu_core.specs.Views.{count, to_undo, to_mark}
use Rattle.percpu_core.specs.ReleaseLaw.{Origin}
use Rattle.percpu_core.specs.Laws.{Laws}
use Rattle.percpu_core.specs.PassSteps.{look_reply, standing_after}
use Rattle.percpu_core.specs.PassLearns.{next_even, pass_view_after}
use Rattle.percpu_core.specs.Machine.{won}
use Rattle.percpu_core.proofs.SlotLists.{open_with, slot_there, open_deltas-set, small-set, open-set}
use Rattle.percpu_core.proofs.PassKeeps.{Recounts, PassChange, on_shared}
use Rattle.percpu_core.proofs.Flags.{true_not_false}
use Rattle.percpu_core.proofs.PassEvents.{After, keeps, begins, false_or, read_now, floors, room, dead_found, zero_found}

-- in a phase in which a slot is open ZERO is clear and the front is even
open_is_clear : (x : Phase) (k : ℕ) → is_open_in x k ≡ true → (may_be_zero x ≡ false) × (has_odd_front x ≡ false)
open_is_clear LiveSlots k h = (refl, refl)
open_is_clear LiveAtomic k h = cc
open_is_clear (Closing i) k h = (refl, refl)
open_is_clear Collected k h = cc
open_is_clear Confirmed k h = cc
open_is_clear Dead k h = cc
open_is_clear Reviving k h = cc
open_is_clear Fronted k h = cc
open_is_clear (Opening i) k h = (refl, refl)

false_from : (z : Bool) → (z ≡ true → ⊥) → z ≡ false
false_from true h = absurd (h refl)
false_from false h = refl

-- what is held and what the slot counts change alike
recount : (v held held' undo : ℕ) (a a' d e : ℤ) → a' +ℤ d ≡ a +ℤ e → pos held +ℤ e ≡ pos held' +ℤ d → pos v +ℤ a' +ℤ pos (held + undo) ≡ pos v +ℤ a +ℤ pos (held' + undo)
recount v held held' undo a a' d e f g = omega (arith, ints)

-- while a slot is open ZERO is clear, and the front is even
module _ (o : Origin) (cells : Cells) (c : ControlView) (vs : List View) (l : Laws o cells c vs) (s : ℕ) (d : ℤ) (there : s < length cells.slots) (is : slot_at cells.slots s ≡ Open d) where
  is_open_now : is_open_in c.standing.phase s ≡ true
  is_open_now = sym (l.phase.slots s (slot_at cells.slots s) (slot_there cells.slots s there)) ∙ ap is_open is

  pub clear : cells.shared.zero ≡ false
  clear = false_from cells.shared.zero (λ z. true_not_false (sym (l.zero.after_drop z) ∙ (open_is_clear c.standing.phase s is_open_now).0))

  even : cells.front % 2 ≡ 0
  even = l.front.parity ∙ ap count (open_is_clear c.standing.phase s is_open_now).1

module _ (o : Origin) (cells : Cells) (c : ControlView) (vs : List View) (l : Laws o cells c vs) (i : ℕ) (p : PassView) (at : get_elem? vs i ≡ some (OfPass p)) (idle : p.standing.pending ≡ Nothing) where
  none : to_undo p.standing.pending ≡ 0
  none = ap to_undo idle

  nought : to_mark p.standing.pending ≡ 0
  nought = ap to_mark idle

  -- a step with this reply that changes nothing except what the pass may have begun to read
  abbrev still_view : PassEvent → Reply → PassView
  still_view e r = record (pass_view_after e cells p) { standing = standing_after e r p.standing; floor = p.floor; releases = p.releases + won r }

  look_change : (s : ℕ) (t : Slot) → PassChange cells c p cells.shared cells.slots (still_view (Look s) (look_reply t))
  look_change s Closed = let no = none in let mark = nought in let most = room o cells c vs l i p at in record {
    counts = on_shared o cells c vs l p (still_view (Look s) (look_reply Closed)) cells.shared (omega arith);
    dead = refl;
    zero = inl (refl, omega arith, λ z. omega arith);
    mark = λ h. inr (h, omega arith);
    read = λ h. read_now o cells c vs l i p at (omega arith);
    floor = (floors o cells c vs l i p at).0;
    seen_front = (floors o cells c vs l i p at).1;
    room = omega arith;
    found_dead = λ h. dead_found o cells c vs l i p at (false_or p.found_dead h);
    found_zero = λ h. zero_found o cells c vs l i p at (false_or p.found_zero h);
  }
  look_change s (Open d) = let no = none in let mark = nought in let most = room o cells c vs l i p at in record {
    counts = on_shared o cells c vs l p (still_view (Look s) (look_reply (Open d))) cells.shared (omega arith);
    dead = refl;
    zero = inl (refl, omega arith, λ z. omega arith);
    mark = λ h. inr (h, omega arith);
    read = λ h. read_now o cells c vs l i p at (omega arith);
    floor = (floors o cells c vs l i p at).0;
    seen_front = (floors o cells c vs l i p at).1;
    room = omega arith;
    found_dead = λ h. dead_found o cells c vs l i p at (false_or p.found_dead h);
    found_zero = λ h. zero_found o cells c vs l i p at (false_or p.found_zero h);
  }

  pub look : (s : ℕ) → After o cells c vs l i p at (Look s)
  look s = keeps o cells c vs l i p at (Look s) (look_change s (slot_at cells.slots s))

  module _ (s : ℕ) (d : ℤ) (there : s < length cells.slots) where
    module _ (is : slot_at cells.slots s ≡ Open d) where
      -- the slot's delta is exchanged for another
      exchanges : (e : ℤ) (w : PassView) → IsDelta e → pos p.standing.held +ℤ e ≡ pos w.standing.held +ℤ d → to_undo w.standing.pending ≡ to_undo p.standing.pending
          → Recounts cells c p cells.shared (set cells.slots s (Open e)) w
      exchanges e w fits same undo = record {
        sum = let moved : open_deltas (set cells.slots s (Open e)) +ℤ d ≡ open_deltas cells.slots +ℤ e
            = ap (λ (t : Slot). open_deltas (set cells.slots s (Open e)) +ℤ delta t) (sym is) ∙ open_deltas-set cells.slots s (Open e) there in
            recount cells.shared.value p.standing.held w.standing.held (to_undo p.standing.pending) (open_deltas cells.slots) (open_deltas (set cells.slots s (Open e))) d e moved same
            ∙ ap (λ (u : ℕ). pos cells.shared.value +ℤ open_deltas cells.slots +ℤ pos (w.standing.held + u)) (sym undo);
        slots = open-set cells.slots s (Open e) (is_open_in c.standing.phase) (is_open_in c.standing.phase) l.phase.slots (sym (is_open_now o cells c vs l s d there is)) (λ k n. refl);
        size = length-set cells.slots s (Open e);
        small = small-set cells.slots s (Open e) l.limit.deltas fits;
      }

    -- a take, won or lost
    module _ (n : ℕ) (fits : IsDelta (d +ℤ pos n)) (has_room : p.standing.held + n ≤ HELD_LIMIT) where
      abbrev take_view : Bool → PassView
      take_view b = record (pass_view_after (Take s d n) cells p) {
        standing = standing_after (Take s d n) (if b then Won else Lost) p.standing;
        floor = if b then next_even p.floor else p.floor;
        releases = p.releases + won (if b then Won else Lost);
      }

      take_change : (b : Bool) → is_open_with d (slot_at cells.slots s) ≡ b → PassChange cells c p cells.shared (if b then set cells.slots s (Open (d +ℤ pos n)) else cells.slots) (take_view b)
      take_change true finds = let is = open_with d (slot_at cells.slots s) finds in let no = none in let mark = nought in let low = floors o cells c vs l i p at in let parity = even o cells c vs l s d there is in record {
        counts = exchanges is (d +ℤ pos n) (take_view true) fits (omega (arith, ints)) (omega arith);
        dead = refl;
        zero = inl (refl, omega arith, λ z. true_not_false (sym z ∙ clear o cells c vs l s d there is));
        mark = λ h. inr (h, omega arith);
        read = λ h. begins cells.words p.standing.held p.read (read_now o cells c vs l i p at);
        floor = omega arith;
        seen_front = omega arith;
        room = omega arith;
        found_dead = λ h. dead_found o cells c vs l i p at (false_or p.found_dead h);
        found_zero = λ h. zero_found o cells c vs l i p at (false_or p.found_zero h);
      }
      take_change false finds = let no = none in let mark = nought in let most = room o cells c vs l i p at in record {
        counts = on_shared o cells c vs l p (take_view false) cells.shared (omega arith);
        dead = refl;
        zero = inl (refl, omega arith, λ z. omega arith);
        mark = λ h. inr (h, omega arith);
        read = λ h. begins cells.words p.standing.held p.read (read_now o cells c vs l i p at);
        floor = (floors o cells c vs l i p at).0;
        seen_front = (floors o cells c vs l i p at).1;
        room = omega arith;
        found_dead = λ h. dead_found o cells c vs l i p at (false_or p.found_dead h);
        found_zero = λ h. zero_found o cells c vs l i p at (false_or p.found_zero h);
      }

      pub take : After o cells c vs l i p at (Take s d n)
      take = keeps o cells c vs l i p at (Take s d n) (take_change (is_open_with d (slot_at cells.slots s)) refl)

    -- a giving back, won or lost
    module _ (n : ℕ) (fits : IsDelta (d -ℤ pos n)) (holds : n ≤ p.standing.held) where
      abbrev give_view : Bool → PassView
      give_view b = record (pass_view_after (Give s d n) cells p) {
        standing = standing_after (Give s d n) (if b then Won else Lost) p.standing;
        releases = p.releases + won (if b then Won else Lost);
      }

      give_change : (b : Bool) → is_open_with d (slot_at cells.slots s) ≡ b → PassChange cells c p cells.shared (if b then set cells.slots s (Open (d -ℤ pos n)) else cells.slots) (give_view b)
      give_change true finds = let is = open_with d (slot_at cells.slots s) finds in let no = none in let mark = nought in let most = room o cells c vs l i p at in record {
        counts = exchanges is (d -ℤ pos n) (give_view true) fits (omega (arith, ints)) (omega arith);
        dead = refl;
        zero = inl (refl, omega arith, λ z. omega arith);
        mark = λ h. inr (h, omega arith);
        read = λ h. read_now o cells c vs l i p at (omega arith);
        floor = (floors o cells c vs l i p at).0;
        seen_front = (floors o cells c vs l i p at).1;
        room = omega arith;
        found_dead = λ h. dead_found o cells c vs l i p at (false_or p.found_dead h);
        found_zero = λ h. zero_found o cells c vs l i p at (false_or p.found_zero h);
      }
      give_change false finds = let no = none in let mark = nought in let most = room o cells c vs l i p at in record {
        counts = on_shared o cells c vs l p (give_view false) cells.shared (omega arith);
        dead = refl;
        zero = inl (refl, omega arith, λ z. omega arith);
        mark = λ h. inr (h, omega arith);
        read = λ h. read_now o cells c vs l i p at (omega arith);
        floor = (floors o cells c vs l i p at).0;
        seen_front = (floors o cells c vs l i p at).1;
        room = omega arith;
        found_dead = λ h. dead_found o cells c vs l i p at (false_or p.found_dead h);
        found_zero = λ h. zero_found o cells c vs l i p at (false_or p.found_zero h);
      }

      pub give : After o cells c vs l i p at (Give s d n)
      give = keeps o cells c vs l i p at (Give s d n) (give_change (is_open_with d (slot_at cells.slots s)) refl)
