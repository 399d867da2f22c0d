-- What the phase of the control implies, for the proofs of its steps.
use Rattle.std.proofs.Common.{◌≡◌, ℕ, ◌%◌, ◌≤◌, Bool, true, false, if◌then◌else◌, List, refl, arith, ap, sym, ◌∙◌, subst, leb}
use Rattle.std.proofs.lemmas.Bool.Decides.{nat_tests}
use Rattle.percpu_core.specs.declared.control_event.ControlEvent.{ControlEvent}
use Rattle.percpu_core.specs.declared.phase.Phase.{Phase}
use Rattle.percpu_core.specs.declared.reply.Reply.TheVariants.{NotLast, ToMark}
use Rattle.percpu_core.specs.declared.view.ControlView.{ControlView}
use Rattle.percpu_core.specs.declared.view.View.{View}
use Rattle.percpu_core.specs.declared.slot.Slot.{Slot}
use Rattle.percpu_core.specs.Cells.{Cells}
use Rattle.percpu_core.specs.Phases.{holds_base, is_dead_in, is_killing_in, may_be_zero, has_odd_front}
use Rattle.percpu_core.specs.Views.{count}
use Rattle.percpu_core.specs.ReleaseLaw.{Origin}
use Rattle.percpu_core.specs.LimitLaw.{fronts_due}
use Rattle.percpu_core.specs.Laws.{Laws}
use Rattle.percpu_core.specs.ControlSteps.{cells_after_control, shared_after_control, slots_after_control, front_after, words_after, is_to_mark}
use Rattle.percpu_core.specs.ControlLearns.{control_view_after}
use Rattle.percpu_core.proofs.Flags.{true_not_false}
use Rattle.percpu_core.proofs.Counting.{value-least}
use Rattle.percpu_core.proofs.ControlKeeps.{ControlChange, control_keeps}

pub left_is_to_mark : (b : Bool) → b ≡ true → count (is_to_mark (if b then ToMark else NotLast)) ≡ 1
left_is_to_mark true e = refl
left_is_to_mark false e = cc

pub from_first : (k : ℕ) → leb 0 k ≡ true
from_first k = grind (arith, nat_tests)

module _ (o : Origin) (cells : Cells) (c : ControlView) (vs : List View) (l : Laws o cells c vs) where
  -- the laws after the step
  abbrev pub After : ControlEvent → Type 0
  After e = Laws o (cells_after_control e c.standing cells) (control_view_after e cells c) vs

  -- of a step that leaves the slots
  abbrev pub Change : ControlEvent → Type 0
  Change e = ControlChange o cells c vs (shared_after_control e c.standing.uncollected cells.shared) (front_after e cells.front) (words_after e cells.words) (control_view_after e cells c)

  pub keeps : (e : ControlEvent) → slots_after_control e c.standing.phase cells.slots ≡ cells.slots → Change e → After e
  keeps e same g = subst (λ (ss : List Slot). Laws o (record (cells_after_control e c.standing cells) { slots = ss }) (control_view_after e cells c) vs) (sym same) (control_keeps o cells c vs l _ _ _ (control_view_after e cells c) g)

  pub base : (x : Phase) → c.standing.phase ≡ x → count (holds_base c.standing.phase) ≡ count (holds_base x)
  base x is = ap (λ x. count (holds_base x)) is

  pub dead : (x : Phase) → c.standing.phase ≡ x → cells.shared.dead ≡ is_dead_in x c.killing
  dead x is = l.phase.dead ∙ ap (λ x. is_dead_in x c.killing) is

  pub killing : (x : Phase) → c.standing.phase ≡ x → c.killing ≡ is_killing_in x c.killing
  killing x is = l.phase.killing ∙ ap (λ x. is_killing_in x c.killing) is

  pub parity : (x : Phase) → c.standing.phase ≡ x → cells.front % 2 ≡ count (has_odd_front x)
  parity x is = l.front.parity ∙ ap (λ x. count (has_odd_front x)) is

  pub due : (x : Phase) → c.standing.phase ≡ x → fronts_due c.standing.phase c.killing ≡ fronts_due x c.killing
  due x is = ap (λ x. fronts_due x c.killing) is

  pub never_zero : (x : Phase) → c.standing.phase ≡ x → may_be_zero x ≡ false → {A : Type 0} → cells.shared.zero ≡ true → A
  never_zero x is never z = true_not_false (sym (l.zero.after_drop z) ∙ ap may_be_zero is ∙ never)

  -- while the initial reference is held, or was just taken, the word isn't DEAD alone
  pub some_value : (x : Phase) → c.standing.phase ≡ x → count (holds_base x) ≡ 1 → 1 ≤ cells.shared.value
  some_value x is one = let in_it = base x is in let least = value-least o cells c vs l in omega arith
