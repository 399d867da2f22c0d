-- Each event of a kill keeps the laws: one lemma for each, whose premises speak of the control's own view and of the word found.
use Rattle.std.proofs.Common.{◌≡◌, ◌+◌, ◌%◌, ◌<◌, inl, Bool, true, false, ◌||◌, if◌then◌else◌, List, length, refl, arith, ap, sym, subst, ◌∙◌}
use Rattle.percpu_core.specs.declared.control_event.ControlEvent.TheVariants.{MarkDead, Confirm, DropBase, Mark}
use Rattle.percpu_core.specs.declared.phase.Phase.{Phase}
use Rattle.percpu_core.specs.declared.phase.Phase.TheVariants.{LiveSlots, LiveAtomic, Closing, Collected, Confirmed}
use Rattle.percpu_core.specs.declared.reply.Reply.TheVariants.{Last, Lost}
use Rattle.percpu_core.specs.declared.view.ControlView.{ControlView}
use Rattle.percpu_core.specs.declared.view.View.{View}
use Rattle.percpu_core.specs.Cells.{Cells, is_dead_alone}
use Rattle.percpu_core.specs.Phases.{holds_base, has_bias, is_open_in, closed_so_far}
use Rattle.percpu_core.specs.Views.{count}
use Rattle.percpu_core.specs.ReleaseLaw.{Origin}
use Rattle.percpu_core.specs.LimitLaw.{fronts_due}
use Rattle.percpu_core.specs.declared.limits.TheConstants.{KILL_LIMIT}
use Rattle.percpu_core.specs.Laws.{Laws}
use Rattle.percpu_core.specs.PassSteps.{minus, marked}
use Rattle.percpu_core.specs.ControlSteps.{cells_after_control, shared_after_control, phase_after, is_to_mark}
use Rattle.percpu_core.specs.ControlLearns.{control_view_after}
use Rattle.percpu_core.specs.Machine.{won}
use Rattle.percpu_core.proofs.PassKeeps.{alone, alone_is_out, alone_is_unheld}
use Rattle.percpu_core.proofs.ControlKeeps.{ControlChange, control_keeps}
use Rattle.percpu_core.proofs.ControlSetting.{After, keeps, base, dead, killing, parity, due, never_zero, some_value, left_is_to_mark, from_first}
use Rattle.percpu_core.proofs.Flags.{true_not_false, or_right, or_false}
use Rattle.percpu_core.proofs.PassEvents.{left_wins}

module _ (o : Origin) (cells : Cells) (c : ControlView) (vs : List View) (l : Laws o cells c vs) where
  -- a kill begins, from either live phase
  abbrev dead_view : Phase → ControlView
  dead_view x = record (control_view_after MarkDead cells c) { standing = record { phase = x; kills = c.standing.kills + 1; to_mark = false; uncollected = c.standing.uncollected } }

  keeps_dead : (x : Phase) → phase_after MarkDead (length cells.slots) cells.shared.dead c.standing.phase ≡ x
      → ControlChange o cells c vs (shared_after_control MarkDead c.standing.uncollected cells.shared) cells.front cells.words (dead_view x) → After o cells c vs l MarkDead
  keeps_dead x is g = subst (λ (x : Phase). Laws o (cells_after_control MarkDead c.standing cells) (dead_view x) vs) (sym is) (control_keeps o cells c vs l _ _ _ (dead_view x) g)

  pub mark_dead_atomic : c.standing.phase ≡ LiveAtomic → c.standing.kills < KILL_LIMIT → After o cells c vs l MarkDead
  mark_dead_atomic is few = keeps_dead Collected (ap (phase_after MarkDead (length cells.slots) cells.shared.dead) is) (
      let base_in : count (holds_base c.standing.phase) ≡ 1 = base o cells c vs l LiveAtomic is in
      let f : fronts_due c.standing.phase c.killing ≡ 0 = due o cells c vs l LiveAtomic is in
      let clear : count cells.shared.dead ≡ 0 = ap count (dead o cells c vs l LiveAtomic is) in
      let some_left = some_value o cells c vs l LiveAtomic is refl in record {
        sum = omega arith;
        bias = sym (ap has_bias is);
        open_slots = λ k. sym (ap (λ x. is_open_in x k) is);
        closed = sym (ap closed_so_far is);
        opening = λ j e. cc;
        uncollected = refl;
        dead = refl;
        killing = refl;
        after_drop = never_zero o cells c vs l LiveAtomic is refl;
        nothing_held = l.zero.nothing_held;
        known = l.zero.known;
        settled = λ h. true_not_false (sym h);
        mark = λ h. let nothing = (alone (record cells.shared { dead = true }) h).2 in absurd (omega arith);
        guarded = inl refl;
        words_known = l.guard.known;
        parity = parity o cells c vs l LiveAtomic is;
        front_known = l.front.known;
        front_grows = omega arith;
        releases = omega arith;
        zeros = l.release.zeros;
        zeros_grow = omega arith;
        kills = omega arith;
        dead_grows = omega arith;
        passes = refl;
        found_dead = refl;
        found_zero = refl;
        few_kills = omega arith;
        due = omega arith;
      })

  pub mark_dead_slots : c.standing.phase ≡ LiveSlots → c.standing.kills < KILL_LIMIT → After o cells c vs l MarkDead
  mark_dead_slots is few = keeps_dead (Closing 0) (ap (phase_after MarkDead (length cells.slots) cells.shared.dead) is) (
      let base_in : count (holds_base c.standing.phase) ≡ 1 = base o cells c vs l LiveSlots is in
      let f : fronts_due c.standing.phase c.killing ≡ 0 = due o cells c vs l LiveSlots is in
      let clear : count cells.shared.dead ≡ 0 = ap count (dead o cells c vs l LiveSlots is) in
      let some_left = some_value o cells c vs l LiveSlots is refl in record {
        sum = omega arith;
        bias = sym (ap has_bias is);
        open_slots = λ k. from_first k ∙ sym (ap (λ x. is_open_in x k) is);
        closed = sym (ap closed_so_far is);
        opening = λ j e. cc;
        uncollected = refl;
        dead = refl;
        killing = refl;
        after_drop = never_zero o cells c vs l LiveSlots is refl;
        nothing_held = l.zero.nothing_held;
        known = l.zero.known;
        settled = λ h. true_not_false (sym h);
        mark = λ h. let nothing = (alone (record cells.shared { dead = true }) h).2 in absurd (omega arith);
        guarded = inl refl;
        words_known = l.guard.known;
        parity = parity o cells c vs l LiveSlots is;
        front_known = l.front.known;
        front_grows = omega arith;
        releases = omega arith;
        zeros = l.release.zeros;
        zeros_grow = omega arith;
        kills = omega arith;
        dead_grows = omega arith;
        passes = refl;
        found_dead = refl;
        found_zero = refl;
        few_kills = omega arith;
        due = omega arith;
      })

  pub confirm : c.standing.phase ≡ Collected → c.standing.to_mark ≡ false → After o cells c vs l Confirm
  confirm is still = keeps o cells c vs l Confirm refl (
      let base_in : count (holds_base c.standing.phase) ≡ 1 = base o cells c vs l Collected is in
      let f : fronts_due c.standing.phase c.killing ≡ 2 = due o cells c vs l Collected is in
      let calm : count c.standing.to_mark ≡ 0 = ap count still in
      let even : cells.front % 2 ≡ 0 = parity o cells c vs l Collected is in
      let known = l.front.known in record {
        sum = omega arith;
        bias = sym (ap has_bias is);
        open_slots = λ k. sym (ap (λ x. is_open_in x k) is);
        closed = sym (ap closed_so_far is);
        opening = λ j e. cc;
        uncollected = refl;
        dead = dead o cells c vs l Collected is;
        killing = killing o cells c vs l Collected is;
        after_drop = never_zero o cells c vs l Collected is refl;
        nothing_held = l.zero.nothing_held;
        known = l.zero.known;
        settled = λ h. true_not_false (sym h);
        mark = λ h. let seat = l.mark h in omega arith;
        guarded = inl refl;
        words_known = l.guard.known;
        parity = omega arith;
        front_known = omega arith;
        front_grows = omega arith;
        releases = omega arith;
        zeros = l.release.zeros;
        zeros_grow = omega arith;
        kills = omega arith;
        dead_grows = omega arith;
        passes = refl;
        found_dead = refl;
        found_zero = refl;
        few_kills = l.limit.kills;
        due = omega arith;
      })

  pub drop_base : c.standing.phase ≡ Confirmed → After o cells c vs l DropBase
  drop_base is = keeps o cells c vs l DropBase refl (
      let base_in : count (holds_base c.standing.phase) ≡ 1 = base o cells c vs l Confirmed is in
      let f : fronts_due c.standing.phase c.killing ≡ 1 = due o cells c vs l Confirmed is in
      let b : Bool = is_dead_alone (minus 1 cells.shared) in
      let wins = left_wins b in
      let some_left = some_value o cells c vs l Confirmed is refl in record {
        sum = omega arith;
        bias = sym (ap has_bias is);
        open_slots = λ k. sym (ap (λ x. is_open_in x k) is);
        closed = sym (ap closed_so_far is);
        opening = λ j e. cc;
        uncollected = refl;
        dead = dead o cells c vs l Confirmed is;
        killing = refl;
        after_drop = λ z. refl;
        nothing_held = never_zero o cells c vs l Confirmed is refl;
        known = l.zero.known;
        settled = λ h. true_not_false (sym h);
        mark = λ h. let mine = left_is_to_mark b h in omega arith;
        guarded = inl refl;
        words_known = l.guard.known;
        parity = parity o cells c vs l Confirmed is;
        front_known = l.front.known;
        front_grows = omega arith;
        releases = omega arith;
        zeros = l.release.zeros;
        zeros_grow = omega arith;
        kills = omega arith;
        dead_grows = omega arith;
        passes = refl;
        found_dead = refl;
        found_zero = refl;
        few_kills = l.limit.kills;
        due = omega arith;
      })

  abbrev mark_view : Bool → ControlView
  mark_view b = record (control_view_after Mark cells c) {
    standing = record c.standing { to_mark = is_to_mark (if b then Last else Lost) };
    releases = c.releases + won (if b then Last else Lost);
    knows_zero = c.knows_zero || b;
  }

  mark_change : (b : Bool) → is_dead_alone cells.shared ≡ b → ControlChange o cells c vs (record cells.shared { zero = cells.shared.zero || b }) cells.front cells.words (mark_view b)
  mark_change true is = let clear : count cells.shared.zero ≡ 0 = ap count (alone cells.shared is).0 in let set : count (cells.shared.zero || true) ≡ 1 = ap count (or_right cells.shared.zero) in
      let is_out = alone_is_out o cells c vs l is in record {
        sum = omega arith;
        bias = refl;
        open_slots = λ k. refl;
        closed = refl;
        opening = l.phase.opening;
        uncollected = refl;
        dead = l.phase.dead;
        killing = l.phase.killing;
        after_drop = λ z. is_out.0;
        nothing_held = λ z. alone_is_unheld o cells c vs l is;
        known = λ h. or_right cells.shared.zero;
        settled = λ h. true_not_false (sym h ∙ is_out.1);
        mark = λ h. true_not_false (sym (or_right cells.shared.zero) ∙ (alone (record cells.shared { zero = cells.shared.zero || true }) h).0);
        guarded = inl refl;
        words_known = l.guard.known;
        parity = l.front.parity;
        front_known = l.front.known;
        front_grows = omega arith;
        releases = omega arith;
        zeros = l.release.zeros;
        zeros_grow = omega arith;
        kills = omega arith;
        dead_grows = omega arith;
        passes = refl;
        found_dead = refl;
        found_zero = refl;
        few_kills = l.limit.kills;
        due = omega arith;
      }
  mark_change false is = let same = or_false cells.shared.zero in let counts : count (cells.shared.zero || false) ≡ count cells.shared.zero = ap count same in record {
    sum = omega arith;
    bias = refl;
    open_slots = λ k. refl;
    closed = refl;
    opening = l.phase.opening;
    uncollected = refl;
    dead = l.phase.dead;
    killing = l.phase.killing;
    after_drop = λ z. l.zero.after_drop (sym same ∙ z);
    nothing_held = λ z. l.zero.nothing_held (sym same ∙ z);
    known = λ h. same ∙ l.zero.known (sym (or_false c.knows_zero) ∙ h);
    settled = λ h. or_false c.knows_zero ∙ (l.zero.settled h ∙ sym same);
    mark = λ h. true_not_false (sym (rw same at h) ∙ is);
    guarded = inl refl;
    words_known = l.guard.known;
    parity = l.front.parity;
    front_known = l.front.known;
    front_grows = omega arith;
    releases = omega arith;
    zeros = l.release.zeros;
    zeros_grow = omega arith;
    kills = omega arith;
    dead_grows = omega arith;
    passes = refl;
    found_dead = refl;
    found_zero = refl;
    few_kills = l.limit.kills;
    due = omega arith;
  }

  pub mark : After o cells c vs l Mark
  mark = control_keeps o cells c vs l (marked cells.shared) cells.front cells.words (mark_view (is_dead_alone cells.shared)) (mark_change (is_dead_alone cells.shared) refl)
