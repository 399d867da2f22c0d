-- A step of a pass keeps the laws if what it changes in its own view matches what it changes in the shared word.
use Rattle.std.proofs.Common.{◌≡◌, ℕ, ◌+◌, ◌<◌, ◌≤◌, ◌⊎◌, ⊎_elim, true, false, List, length, set, refl, arith, ap, sym, ◌∙◌, subst}
use Rattle.std.specs.Prelude.{ℤ, pos, ◌+ℤ◌}
use Rattle.std.proofs.lemmas.Int.{ints}
use Rattle.std.proofs.lemmas.Bool.Decides.{nat_tests}
use mathlib.Core.Option.{some}
use lib.ListN.{get_elem?}
use Rattle.percpu_core.specs.declared.phase.Phase.{Phase}
use Rattle.percpu_core.specs.declared.phase.Phase.TheVariants.{LiveSlots, LiveAtomic, Closing, Collected, Confirmed, Dead, Reviving, Fronted, Opening}
use Rattle.percpu_core.specs.declared.view.PassView.{PassView}
use Rattle.percpu_core.specs.declared.view.ControlView.{ControlView}
use Rattle.percpu_core.specs.declared.view.View.{View}
use Rattle.percpu_core.specs.declared.view.View.TheVariants.{OfPass}
use Rattle.percpu_words.specs.SharedWord.{SharedWord}
use Rattle.percpu_core.specs.declared.slot.Slot.{Slot}
use Rattle.percpu_core.specs.Cells.{Cells, open_deltas, is_dead_alone}
use Rattle.percpu_core.specs.Phases.{holds_base, may_be_zero, is_coming_back, has_bias, is_open_in, closed_so_far}
use Rattle.percpu_core.specs.Views.{count, to_undo, to_mark, held_by_all, additions_to_undo, zeros_to_mark, releases_of_passes, passes_left}
use Rattle.percpu_core.specs.GuardLaw.{AreNow}
use Rattle.percpu_core.specs.SumLaw.{SumLaw}
use Rattle.percpu_core.specs.ZeroLaw.{ZeroLaw}
use Rattle.percpu_core.specs.MarkLaw.{MarkLaw}
use Rattle.percpu_core.specs.ReleaseLaw.{Origin, ReleaseLaw}
use Rattle.percpu_core.specs.LimitLaw.{AreSmall}
use Rattle.percpu_core.specs.declared.limits.TheConstants.{HELD_LIMIT}
use Rattle.percpu_core.specs.Laws.{Laws}
use Rattle.percpu_core.proofs.Passes.{over_passes-set, over_passes-at, EachPass-set}
use Rattle.percpu_core.proofs.Counting.{balance_slots, value-least}
use Rattle.percpu_core.proofs.SlotLists.{OpenAs}

-- what the pass counts differently matches what changes in the shared word and in the slots, which stay open or closed
pub record Recounts (cells : Cells) (c : ControlView) (p : PassView) (s : SharedWord) (ss : List Slot) (w : PassView) : Type 0 where
  pub sum : pos s.value +ℤ open_deltas ss +ℤ pos (p.standing.held + to_undo p.standing.pending)
      ≡ pos cells.shared.value +ℤ open_deltas cells.slots +ℤ pos (w.standing.held + to_undo w.standing.pending)
  pub slots : OpenAs (is_open_in c.standing.phase) ss
  pub size : length ss ≡ length cells.slots
  pub small : AreSmall ss

-- what a step of a pass may do, as far as its own view, the shared word and the slots allow
pub record PassChange (cells : Cells) (c : ControlView) (p : PassView) (s : SharedWord) (ss : List Slot) (w : PassView) : Type 0 where
  pub counts : Recounts cells c p s ss w
  pub dead : s.dead ≡ cells.shared.dead
  -- ZERO stays as it is and then nothing may come to be held, or it is set on DEAD alone and that is a release
  pub zero : ((s.zero ≡ cells.shared.zero) × (w.releases ≡ p.releases) × (cells.shared.zero ≡ true → w.standing.held ≤ p.standing.held))
      ⊎ ((s.zero ≡ true) × (is_dead_alone cells.shared ≡ true) × (w.releases ≡ p.releases + 1) × (w.standing.held ≡ p.standing.held))
  pub mark : is_dead_alone s ≡ true → (to_mark w.standing.pending ≡ 1) ⊎ ((is_dead_alone cells.shared ≡ true) × (to_mark p.standing.pending ≤ to_mark w.standing.pending))
  pub read : 0 < w.standing.held → AreNow cells.words w.read
  pub floor : w.floor ≤ cells.front
  pub seen_front : w.seen_front ≤ w.floor
  pub room : w.standing.held ≤ HELD_LIMIT
  pub found_dead : w.found_dead ≡ true → 1 ≤ c.revivals + count cells.shared.dead
  pub found_zero : w.found_zero ≡ true → 1 ≤ c.zeros_cleared + count cells.shared.zero

pub alone : (s : SharedWord) → is_dead_alone s ≡ true → (s.zero ≡ false) × (s.dead ≡ true) × (s.value ≡ 0)
alone s h = grind (arith, nat_tests)

pub out : (phase : Phase) → count (holds_base phase) ≡ 0 → (may_be_zero phase ≡ true) × (is_coming_back phase ≡ false) × (has_bias phase ≡ false)
out LiveSlots h = absurd (omega arith)
out LiveAtomic h = absurd (omega arith)
out (Closing i) h = absurd (omega arith)
out Collected h = absurd (omega arith)
out Confirmed h = absurd (omega arith)
out Dead h = (refl, refl, refl)
out Reviving h = absurd (omega arith)
out Fronted h = absurd (omega arith)
out (Opening i) h = absurd (omega arith)

module _ (o : Origin) (cells : Cells) (c : ControlView) (vs : List View) (l : Laws o cells c vs) where
  -- if the shared word is DEAD alone the initial reference is out and nothing is held
  pub alone_is_out : is_dead_alone cells.shared ≡ true → (may_be_zero c.standing.phase ≡ true) × (is_coming_back c.standing.phase ≡ false) × (has_bias c.standing.phase ≡ false)
  alone_is_out h = let none = (alone cells.shared h).2 in let least = value-least o cells c vs l in out c.standing.phase (omega arith)

  pub alone_is_unheld : is_dead_alone cells.shared ≡ true → held_by_all vs ≡ 0
  alone_is_unheld h = let none = (alone cells.shared h).2 in let least = value-least o cells c vs l in omega arith

  same_sum : (v v' x y : ℕ) (a : ℤ) → v' + x ≡ v + y → pos v' +ℤ a +ℤ pos x ≡ pos v +ℤ a +ℤ pos y
  same_sum v v' x y a h = omega (arith, ints)

  -- if no slot changes, the shared word alone has to match
  pub on_shared : (p w : PassView) (s : SharedWord) → s.value + (p.standing.held + to_undo p.standing.pending) ≡ cells.shared.value + (w.standing.held + to_undo w.standing.pending)
      → Recounts cells c p s cells.slots w
  on_shared p w s h = record { sum = same_sum _ _ _ _ _ h; slots = l.phase.slots; size = refl; small = l.limit.deltas }

  module _ (i : ℕ) (p w : PassView) (s : SharedWord) (ss : List Slot) (at : get_elem? vs i ≡ some (OfPass p)) (g : PassChange cells c p s ss w) where
    abbrev vs' : List View
    vs' = set vs i (OfPass w)

    abbrev cells' : Cells
    cells' = record cells { shared = s; slots = ss }

    held : held_by_all vs' + p.standing.held ≡ held_by_all vs + w.standing.held
    held = over_passes-set (λ p. p.standing.held) vs i (OfPass p) (OfPass w) at

    undo : additions_to_undo vs' + to_undo p.standing.pending ≡ additions_to_undo vs + to_undo w.standing.pending
    undo = over_passes-set (λ p. to_undo p.standing.pending) vs i (OfPass p) (OfPass w) at

    marks : zeros_to_mark vs' + to_mark p.standing.pending ≡ zeros_to_mark vs + to_mark w.standing.pending
    marks = over_passes-set (λ p. to_mark p.standing.pending) vs i (OfPass p) (OfPass w) at

    won : releases_of_passes vs' + p.releases ≡ releases_of_passes vs + w.releases
    won = over_passes-set (λ p. p.releases) vs i (OfPass p) (OfPass w) at

    left : passes_left vs' ≡ passes_left vs
    left = let e = over_passes-set (λ p. 1) vs i (OfPass p) (OfPass w) at in omega arith

    sum : SumLaw cells' c vs'
    sum = let base : ℕ = count (holds_base c.standing.phase) in let h = held in let u = undo in
        balance_slots cells.shared.value s.value (base + held_by_all vs + additions_to_undo vs) (base + held_by_all vs' + additions_to_undo vs') _
        (p.standing.held + to_undo p.standing.pending) (w.standing.held + to_undo w.standing.pending) _ _ _ l.sum g.counts.sum (omega arith)

    zero : ZeroLaw cells' c vs'
    zero = ⊎_elim
        (λ same. record {
          after_drop = λ z. l.zero.after_drop (sym same.0 ∙ z);
          nothing_held = λ z. let z' : cells.shared.zero ≡ true = sym same.0 ∙ z in let none = l.zero.nothing_held z' in let less = same.2 z' in let h = held in omega arith;
          known = λ k. same.0 ∙ l.zero.known k;
          settled = λ k. l.zero.settled k ∙ sym same.0;
        })
        (λ new. let is_out = alone_is_out new.1 in record {
          after_drop = λ z. is_out.0;
          nothing_held = λ z. let none = alone_is_unheld new.1 in let h = held in let same = new.3 in omega arith;
          known = λ k. new.0;
          settled = λ k. let no = is_out.1 in cc;
        }) g.zero

    mark : MarkLaw cells' c vs'
    mark h = ⊎_elim (λ mine. let m = marks in let most = over_passes-at (λ p. to_mark p.standing.pending) vs i (OfPass p) at in omega arith)
        (λ still. let m = marks in let some_seat = l.mark still.0 in omega arith) (g.mark h)

    zeros : count cells.shared.zero ≤ count s.zero
    zeros = ⊎_elim (λ same. let e = ap count same.0 in omega arith) (λ new. let e = ap count new.0 in let f = ap count (alone cells.shared new.1).0 in omega arith) g.zero

    releases : c.releases + releases_of_passes vs' + count o.dead ≡ c.zeros_cleared + count s.zero
    releases = let before = l.release.releases in let m = won in
        ⊎_elim (λ same. let e = ap count same.0 in let f = same.1 in omega arith) (λ new. let e = ap count new.0 in let f = ap count (alone cells.shared new.1).0 in let r = new.2 in omega arith) g.zero

    release : ReleaseLaw o cells' c vs'
    release = let same = ap count g.dead in let more = zeros in record {
      releases = releases;
      zeros = l.release.zeros;
      kills = let e = l.release.kills in omega arith;
      passes = l.release.passes ∙ sym left;
      found_dead = EachPass-set _ _ (λ q f d. let n = f d in omega arith) vs i (OfPass w) l.release.found_dead (λ d. let n = g.found_dead d in omega arith);
      found_zero = EachPass-set _ _ (λ q f d. let n = f d in omega arith) vs i (OfPass w) l.release.found_zero (λ d. let n = g.found_zero d in omega arith);
      control_found_dead = λ d. let n = l.release.control_found_dead d in omega arith;
      control_found_zero = λ d. let n = l.release.control_found_zero d in omega arith;
    }

    pub pass_keeps : Laws o cells' c vs'
    pass_keeps = record {
      sum = sum;
      phase = record {
        slots = g.counts.slots;
        closed = subst (λ (n : ℕ). closed_so_far c.standing.phase ≤ n) (sym g.counts.size) l.phase.closed;
        opening = λ k is. subst (λ (n : ℕ). k < n) (sym g.counts.size) (l.phase.opening k is);
        dead = g.dead ∙ l.phase.dead;
        killing = l.phase.killing;
      };
      zero = zero;
      mark = mark;
      guard = record { passes = EachPass-set _ _ (λ q h. h) vs i (OfPass w) l.guard.passes g.read; known = l.guard.known };
      front = record { parity = l.front.parity; known = l.front.known; floors = EachPass-set _ _ (λ q h. h) vs i (OfPass w) l.front.floors (g.floor, g.seen_front) };
      release = release;
      limit = record {
        passes = l.limit.passes;
        held = EachPass-set _ _ (λ q h. h) vs i (OfPass w) l.limit.held g.room;
        some_slot = subst (λ (n : ℕ). 1 ≤ n) (sym g.counts.size) l.limit.some_slot;
        slots = subst (λ (n : ℕ). n ≤ 512) (sym g.counts.size) l.limit.slots;
        deltas = g.counts.small;
        uncollected_most = l.limit.uncollected_most;
        uncollected_least = l.limit.uncollected_least;
        kills = l.limit.kills;
        front = l.limit.front;
      };
    }
