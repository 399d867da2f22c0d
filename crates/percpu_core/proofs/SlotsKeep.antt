-- A step of the control on the slots keeps the laws, if the sum law holds of what it leaves and the rest is as the phase after it says.
use Rattle.std.proofs.Common.{◌≡◌, ℕ, ◌+◌, ◌*◌, ◌<◌, ◌≤◌, Bool, true, false, List, length, arith, ap, sym, ◌∙◌, subst}
use Rattle.std.specs.Prelude.{ℤ, pos, ◌+ℤ◌, ◌-ℤ◌, neg_ℤ, ◌≤ℤ◌}
use Rattle.percpu_words.specs.SharedWord.{bias}
use Rattle.percpu_words.specs.SlotWord.{most_delta}
use Rattle.percpu_core.specs.declared.slot.Slot.{Slot}
use Rattle.percpu_core.specs.declared.phase.Phase.{Phase}
use Rattle.percpu_core.specs.declared.phase.Phase.TheVariants.{Opening}
use Rattle.percpu_core.specs.declared.view.ControlView.{ControlView}
use Rattle.percpu_core.specs.declared.view.View.{View}
use Rattle.percpu_core.specs.Cells.{Cells, open_deltas}
use Rattle.percpu_core.specs.Phases.{holds_base, has_bias, is_dead_in, is_killing_in, is_open_in, may_be_zero, is_coming_back, has_odd_front, closed_so_far}
use Rattle.percpu_core.specs.Views.{count, held_by_all, additions_to_undo}
use Rattle.percpu_core.specs.ReleaseLaw.{Origin}
use Rattle.percpu_core.specs.LimitLaw.{AreSmall, fronts_due}
use Rattle.percpu_core.specs.Laws.{Laws}
use Rattle.percpu_core.proofs.PassKeeps.{alone}
use Rattle.percpu_core.proofs.SlotLists.{OpenAs}
use Rattle.percpu_core.proofs.Flags.{true_not_false}

-- what a step of the control on the slots may do: it finds the phase x, and leaves this value, these slots, this phase and this sum
pub record SlotsChange (cells : Cells) (c : ControlView) (x : Phase) (value : ℕ) (ss : List Slot) (y : Phase) (sum : ℤ) : Type 0 where
  pub found : c.standing.phase ≡ x
  pub idle : c.standing.to_mark ≡ false
  pub sums : pos value +ℤ open_deltas ss +ℤ sum -ℤ pos (bias * count (has_bias y))
      ≡ pos cells.shared.value +ℤ open_deltas cells.slots +ℤ c.standing.uncollected -ℤ pos (bias * count (has_bias x))
  pub some_left : 1 ≤ value
  pub slots : OpenAs (is_open_in y) ss
  pub size : length ss ≡ length cells.slots
  pub small : AreSmall ss
  pub closed : closed_so_far y ≤ length cells.slots
  pub opening : (k : ℕ) → y ≡ Opening k → k < length cells.slots
  pub most : sum ≤ℤ pos (most_delta * closed_so_far y)
  pub least : neg_ℤ (pos (most_delta * closed_so_far y)) ≤ℤ sum
  pub base : (holds_base x ≡ true) × (holds_base y ≡ true)
  pub never_zero : (may_be_zero x ≡ false) × (is_coming_back y ≡ false)
  pub dead : is_dead_in x c.killing ≡ is_dead_in y c.killing
  pub killing : is_killing_in x c.killing ≡ is_killing_in y c.killing
  pub even : has_odd_front x ≡ has_odd_front y
  pub due : fronts_due x c.killing ≡ fronts_due y c.killing

-- what the memory and the control's view are after such a step
abbrev pub changed : Cells → ℕ → List Slot → Cells
changed cells value ss = record cells { shared = record cells.shared { value = value }; slots = ss }

abbrev pub standing_at : ControlView → Phase → ℤ → ControlView
standing_at c y sum = record c { standing = record { phase = y; kills = c.standing.kills; to_mark = false; uncollected = sum }; releases = c.releases + 0 }

module _ (o : Origin) (cells : Cells) (c : ControlView) (vs : List View) (l : Laws o cells c vs) where
  module _ (x : Phase) (value : ℕ) (ss : List Slot) (y : Phase) (sum : ℤ) (g : SlotsChange cells c x value ss y sum) where
    zero_clear : cells.shared.zero ≡ true → {A : Type 0} → A
    zero_clear z = true_not_false (sym (l.zero.after_drop z) ∙ ap may_be_zero g.found ∙ g.never_zero.0)

    pub slots_keep : Laws o (changed cells value ss) (standing_at c y sum) vs
    slots_keep = record {
      sum = g.sums
          ∙ ap (λ (z : Phase). pos cells.shared.value +ℤ open_deltas cells.slots +ℤ c.standing.uncollected -ℤ pos (bias * count (has_bias z))) (sym g.found)
          ∙ l.sum
          ∙ ap (λ (b : Bool). pos (count b + held_by_all vs + additions_to_undo vs)) (ap holds_base g.found ∙ g.base.0 ∙ sym g.base.1);
      phase = record {
        slots = g.slots;
        closed = subst (λ (n : ℕ). closed_so_far y ≤ n) (sym g.size) g.closed;
        opening = λ k is. subst (λ (n : ℕ). k < n) (sym g.size) (g.opening k is);
        dead = l.phase.dead ∙ ap (λ (z : Phase). is_dead_in z c.killing) g.found ∙ g.dead;
        killing = l.phase.killing ∙ ap (λ (z : Phase). is_killing_in z c.killing) g.found ∙ g.killing;
      };
      zero = record {
        after_drop = λ z. zero_clear z;
        nothing_held = l.zero.nothing_held;
        known = l.zero.known;
        settled = λ h. true_not_false (sym h ∙ g.never_zero.1);
      };
      mark = λ h. let nothing = (alone (record cells.shared { value = value }) h).2 in let some = g.some_left in absurd (omega arith);
      guard = record { passes = l.guard.passes; known = l.guard.known };
      front = record { parity = l.front.parity ∙ ap (λ (z : Phase). count (has_odd_front z)) g.found ∙ ap count g.even; known = l.front.known; floors = l.front.floors };
      release = record {
        releases = let e = l.release.releases in omega arith;
        zeros = l.release.zeros;
        kills = l.release.kills;
        passes = l.release.passes;
        found_dead = l.release.found_dead;
        found_zero = l.release.found_zero;
        control_found_dead = l.release.control_found_dead;
        control_found_zero = l.release.control_found_zero;
      };
      limit = record {
        passes = l.limit.passes;
        held = l.limit.held;
        some_slot = subst (λ (n : ℕ). 1 ≤ n) (sym g.size) l.limit.some_slot;
        slots = subst (λ (n : ℕ). n ≤ 512) (sym g.size) l.limit.slots;
        deltas = g.small;
        uncollected_most = g.most;
        uncollected_least = g.least;
        kills = l.limit.kills;
        front = ap (λ (n : ℕ). c.front + n) (sym (ap (λ (z : Phase). fronts_due z c.killing) g.found ∙ g.due)) ∙ l.limit.front;
      };
    }
