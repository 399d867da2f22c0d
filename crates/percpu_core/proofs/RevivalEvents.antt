-- The events of a revival, the store of a guarded word and a look keep the laws.
use Rattle.std.proofs.Common.{◌≡◌, ℕ, ◌+◌, ◌%◌, inl, inr, true, false, List, set, refl, arith, ap, sym, ◌∙◌}
use Rattle.percpu_core.specs.declared.control_event.ControlEvent.TheVariants.{TakeBase, NextFront, ClearDead, StoreWord, LookShared}
use Rattle.percpu_core.specs.declared.phase.Phase.TheVariants.{Dead, Reviving, Fronted}
use Rattle.percpu_core.specs.declared.view.ControlView.{ControlView}
use Rattle.percpu_core.specs.declared.view.View.{View}
use Rattle.percpu_core.specs.Cells.{Cells}
use Rattle.percpu_core.specs.Phases.{holds_base, has_bias, is_open_in, is_coming_back, closed_so_far}
use Rattle.percpu_core.specs.Views.{count}
use Rattle.percpu_core.specs.ReleaseLaw.{Origin}
use Rattle.percpu_core.specs.LimitLaw.{fronts_due}
use Rattle.percpu_core.specs.Laws.{Laws}
use Rattle.percpu_core.proofs.Counting.{count-most}
use Rattle.percpu_core.proofs.PassKeeps.{alone}
use Rattle.percpu_core.proofs.ControlSetting.{After, keeps, base, dead, killing, parity, due}
use Rattle.percpu_core.proofs.Flags.{true_not_false, or_cases, or_same}

module _ (o : Origin) (cells : Cells) (c : ControlView) (vs : List View) (l : Laws o cells c vs) where
  pub take_base : c.standing.phase ≡ Dead → After o cells c vs l TakeBase
  take_base is = keeps o cells c vs l TakeBase refl (
      let base_in : count (holds_base c.standing.phase) ≡ 0 = base o cells c vs l Dead is in
      let f : fronts_due c.standing.phase c.killing ≡ 1 = due o cells c vs l Dead is in record {
        sum = omega arith;
        bias = sym (ap has_bias is);
        open_slots = λ k. sym (ap (λ x. is_open_in x k) is);
        closed = sym (ap closed_so_far is);
        opening = λ j e. cc;
        uncollected = refl;
        dead = dead o cells c vs l Dead is;
        killing = killing o cells c vs l Dead is;
        after_drop = λ z. refl;
        nothing_held = l.zero.nothing_held;
        known = λ h. h;
        settled = λ h. refl;
        mark = λ h. let nothing = (alone (record cells.shared { value = cells.shared.value + 1 }) h).2 in absurd (omega arith);
        guarded = inl refl;
        words_known = l.guard.known;
        parity = parity o cells c vs l Dead is;
        front_known = l.front.known;
        front_grows = omega arith;
        releases = omega arith;
        zeros = l.release.zeros;
        zeros_grow = omega arith;
        kills = omega arith;
        dead_grows = omega arith;
        passes = refl;
        found_dead = refl;
        found_zero = refl;
        few_kills = l.limit.kills;
        due = omega arith;
      })

  pub next_front : c.standing.phase ≡ Reviving → c.standing.to_mark ≡ false → After o cells c vs l NextFront
  next_front is still = keeps o cells c vs l NextFront refl (
      let base_in : count (holds_base c.standing.phase) ≡ 1 = base o cells c vs l Reviving is in
      let f : fronts_due c.standing.phase c.killing ≡ 1 = due o cells c vs l Reviving is in
      let calm : count c.standing.to_mark ≡ 0 = ap count still in
      let odd : cells.front % 2 ≡ 1 = parity o cells c vs l Reviving is in
      let known = l.front.known in record {
        sum = omega arith;
        bias = sym (ap has_bias is);
        open_slots = λ k. sym (ap (λ x. is_open_in x k) is);
        closed = sym (ap closed_so_far is);
        opening = λ j e. cc;
        uncollected = refl;
        dead = dead o cells c vs l Reviving is;
        killing = killing o cells c vs l Reviving is;
        after_drop = λ z. refl;
        nothing_held = l.zero.nothing_held;
        known = l.zero.known;
        settled = λ h. l.zero.settled (ap is_coming_back is);
        mark = λ h. let seat = l.mark h in omega arith;
        guarded = inl refl;
        words_known = l.guard.known;
        parity = omega arith;
        front_known = omega arith;
        front_grows = omega arith;
        releases = omega arith;
        zeros = l.release.zeros;
        zeros_grow = omega arith;
        kills = omega arith;
        dead_grows = omega arith;
        passes = refl;
        found_dead = refl;
        found_zero = refl;
        few_kills = l.limit.kills;
        due = omega arith;
      })

  pub clear_dead : c.standing.phase ≡ Fronted → After o cells c vs l ClearDead
  clear_dead is = keeps o cells c vs l ClearDead refl (
      let base_in : count (holds_base c.standing.phase) ≡ 1 = base o cells c vs l Fronted is in
      let f : fronts_due c.standing.phase c.killing ≡ 0 = due o cells c vs l Fronted is in
      let set : count cells.shared.dead ≡ 1 = ap count (dead o cells c vs l Fronted is) in
      let z = count-most cells.shared.zero in
      let few = l.release.zeros in record {
        sum = omega arith;
        bias = sym (ap has_bias is);
        open_slots = λ k. sym (ap (λ x. is_open_in x k) is);
        closed = sym (ap closed_so_far is);
        opening = λ j e. cc;
        uncollected = refl;
        dead = refl;
        killing = killing o cells c vs l Fronted is;
        after_drop = λ z. true_not_false (sym z);
        nothing_held = λ z. true_not_false (sym z);
        known = λ h. true_not_false (sym h);
        settled = λ h. true_not_false (sym h);
        mark = λ h. true_not_false (sym h);
        guarded = inl refl;
        words_known = l.guard.known;
        parity = parity o cells c vs l Fronted is;
        front_known = l.front.known;
        front_grows = omega arith;
        releases = omega arith;
        zeros = omega arith;
        zeros_grow = omega arith;
        kills = omega arith;
        dead_grows = omega arith;
        passes = refl;
        found_dead = refl;
        found_zero = refl;
        few_kills = l.limit.kills;
        due = omega arith;
      })

  pub store_word : (k v : ℕ) → c.standing.phase ≡ Dead → cells.shared.zero ≡ true → c.standing.to_mark ≡ false → After o cells c vs l (StoreWord k v)
  store_word k v is z still = keeps o cells c vs l (StoreWord k v) refl (
      let base_in : count (holds_base c.standing.phase) ≡ 0 = base o cells c vs l Dead is in
      let f : fronts_due c.standing.phase c.killing ≡ 1 = due o cells c vs l Dead is in
      let calm : count c.standing.to_mark ≡ 0 = ap count still in record {
        sum = omega arith;
        bias = refl;
        open_slots = λ k. refl;
        closed = refl;
        opening = l.phase.opening;
        uncollected = refl;
        dead = l.phase.dead;
        killing = l.phase.killing;
        after_drop = l.zero.after_drop;
        nothing_held = l.zero.nothing_held;
        known = λ h. z;
        settled = λ h. true_not_false (sym h ∙ ap is_coming_back is);
        mark = λ h. let seat = l.mark h in omega arith;
        guarded = inr (l.zero.nothing_held z);
        words_known = ap (λ (ws : List ℕ). set ws k v) l.guard.known;
        parity = l.front.parity;
        front_known = l.front.known;
        front_grows = omega arith;
        releases = omega arith;
        zeros = l.release.zeros;
        zeros_grow = omega arith;
        kills = omega arith;
        dead_grows = omega arith;
        passes = refl;
        found_dead = refl;
        found_zero = refl;
        few_kills = l.limit.kills;
        due = omega arith;
      })

  pub look_shared : c.standing.to_mark ≡ false → After o cells c vs l LookShared
  look_shared still = keeps o cells c vs l LookShared refl (
      let calm : count c.standing.to_mark ≡ 0 = ap count still in record {
        sum = omega arith;
        bias = refl;
        open_slots = λ k. refl;
        closed = refl;
        opening = l.phase.opening;
        uncollected = refl;
        dead = l.phase.dead;
        killing = l.phase.killing;
        after_drop = l.zero.after_drop;
        nothing_held = l.zero.nothing_held;
        known = or_cases c.knows_zero cells.shared.zero l.zero.known (λ h. h);
        settled = λ h. or_same c.knows_zero cells.shared.zero (l.zero.settled h);
        mark = λ h. let seat = l.mark h in omega arith;
        guarded = inl refl;
        words_known = l.guard.known;
        parity = l.front.parity;
        front_known = l.front.known;
        front_grows = omega arith;
        releases = omega arith;
        zeros = l.release.zeros;
        zeros_grow = omega arith;
        kills = omega arith;
        dead_grows = omega arith;
        passes = refl;
        found_dead = refl;
        found_zero = refl;
        few_kills = l.limit.kills;
        due = omega arith;
      })
