-- The laws over all views in one list.
use Rattle.std.proofs.Common.{◌≡◌, ℕ, zero, suc, ◌+◌, ◌≤◌, List, [], ◌∷◌, ◌++◌, arith, ap, ◌∙◌, subst}
use mathlib.Core.Option.{some}
use lib.ListN.{get_elem?}
use Rattle.percpu_core.specs.declared.view.PassView.{PassView}
use Rattle.percpu_core.specs.declared.view.ControlView.{ControlView}
use Rattle.percpu_core.specs.declared.view.View.{View}
use Rattle.percpu_core.specs.declared.view.View.TheVariants.{OfControl, OfPass, Spent}
use Rattle.percpu_core.specs.Cells.{Cells}
use Rattle.percpu_core.specs.Phases.{holds_base}
use Rattle.percpu_core.specs.Views.{count, to_undo, to_mark, of_pass, over_passes, held_by_all, additions_to_undo, IfPass, EachPass}
use Rattle.percpu_core.specs.SumLaw.{SumLaw}
use Rattle.percpu_core.specs.ReleaseLaw.{Origin}
use Rattle.percpu_core.specs.Laws.{Laws}
use Rattle.percpu_core.specs.Snapshots.{first_pass}
use Rattle.percpu_core.specs.SeatLaws.{with_one_more, PassStepsKeepLaws, ControlStepsKeepLaws, KnownZeroIsSet, JoiningKeepsLaws, SplittingKeepsLaws}
use Rattle.percpu_core.proofs.Passes.{EachPass-at}
use Rattle.percpu_core.proofs.Counting.{balance}
use Rattle.percpu_core.proofs.Flags.{never}
use Rattle.percpu_core.proofs.Joining.{join}
use Rattle.percpu_core.proofs.Enabled.{pass_keeps_laws, control_keeps_laws}

pub not_control : {A : Type 0} (c : ControlView) (p : PassView) → some (OfControl c) ≡ some (OfPass p) → A
not_control c p e = cc

pub pass_steps_keep_laws : PassStepsKeepLaws
pass_steps_keep_laws o cells [] i p e l at free = absurd l
pass_steps_keep_laws o cells (OfPass q ∷ vs) i p e l at free = absurd l
pass_steps_keep_laws o cells (Spent ∷ vs) i p e l at free = absurd l
pass_steps_keep_laws o cells (OfControl c ∷ vs) zero p e l at free = not_control c p at
pass_steps_keep_laws o cells (OfControl c ∷ vs) (suc i) p e l at free = pass_keeps_laws o cells c vs l i p at e free

-- the control has the first view
pub same_control : (c d : ControlView) → some (OfControl c) ≡ some (OfControl d) → c ≡ d
same_control c d e = cc

pub no_other : {A : Type 0} (o : Origin) (cells : Cells) (c d : ControlView) (vs : List View) (i : ℕ) → Laws o cells c vs → get_elem? vs i ≡ some (OfControl d) → A
no_other o cells c d vs i l at = absurd (EachPass-at _ vs i (OfControl d) l.limit.held at)

pub control_steps_keep_laws : ControlStepsKeepLaws
control_steps_keep_laws o cells [] i d e l at n free = absurd l
control_steps_keep_laws o cells (OfPass q ∷ vs) i d e l at n free = absurd l
control_steps_keep_laws o cells (Spent ∷ vs) i d e l at n free = absurd l
control_steps_keep_laws o cells (OfControl c ∷ vs) zero d e l at n free =
    control_keeps_laws o cells d vs (subst (λ (x : ControlView). Laws o cells x vs) (same_control c d at) l) e n free
control_steps_keep_laws o cells (OfControl c ∷ vs) (suc i) d e l at n free = no_other o cells c d vs i l at

pub known_zero_is_set : KnownZeroIsSet
known_zero_is_set o cells [] i d l at known = absurd l
known_zero_is_set o cells (OfPass q ∷ vs) i d l at known = absurd l
known_zero_is_set o cells (Spent ∷ vs) i d l at known = absurd l
known_zero_is_set o cells (OfControl c ∷ vs) zero d l at known = l.zero.known (ap (λ (x : ControlView). x.knows_zero) (same_control c d at) ∙ known)
known_zero_is_set o cells (OfControl c ∷ vs) (suc i) d l at known = no_other o cells c d vs i l at

pub joining_keeps_laws : JoiningKeepsLaws
joining_keeps_laws o cells [] i j d p l at there none idle = absurd l
joining_keeps_laws o cells (OfPass q ∷ vs) i j d p l at there none idle = absurd l
joining_keeps_laws o cells (Spent ∷ vs) i j d p l at there none idle = absurd l
joining_keeps_laws o cells (OfControl c ∷ vs) zero zero d p l at there none idle = not_control c p there
joining_keeps_laws o cells (OfControl c ∷ vs) zero (suc j) d p l at there none idle =
    join o cells d vs (subst (λ (x : ControlView). Laws o cells x vs) (same_control c d at) l) j p there none idle
joining_keeps_laws o cells (OfControl c ∷ vs) (suc i) j d p l at there none idle = no_other o cells c d vs i l at

-- one view more at the end
over_more : (f : PassView → ℕ) (vs : List View) (v : View) → over_passes f (vs ++ v ∷ []) ≡ over_passes f vs + of_pass f v
over_more f [] v = omega arith
over_more f (x ∷ xs) v = let r = over_more f xs v in omega arith

each_more : (P : PassView → Type 0) (vs : List View) (v : View) → EachPass P vs → IfPass P v → EachPass P (vs ++ v ∷ [])
each_more P [] v e h = (h, tt)
each_more P (x ∷ xs) v e h = (e.0, each_more P xs v e.1 h)

module _ (o : Origin) (cells : Cells) (c : ControlView) (vs : List View) (l : Laws o cells c vs) (few : c.passes + 1 ≤ 1024) where
  abbrev vs' : List View
  vs' = vs ++ OfPass first_pass ∷ []

  sum : SumLaw cells (with_one_more c) vs'
  sum = let base : ℕ = count (holds_base c.standing.phase) in let h = over_more (λ p. p.standing.held) vs (OfPass first_pass) in
      let u = over_more (λ p. to_undo p.standing.pending) vs (OfPass first_pass) in
      balance cells.shared.value cells.shared.value (base + held_by_all vs + additions_to_undo vs) (base + held_by_all vs' + additions_to_undo vs') _ _ _ l.sum (omega arith)

  pub one_more : Laws o cells (with_one_more c) vs'
  one_more = record {
    sum = sum;
    phase = record { slots = l.phase.slots; closed = l.phase.closed; opening = l.phase.opening; dead = l.phase.dead; killing = l.phase.killing };
    zero = record {
      after_drop = l.zero.after_drop;
      nothing_held = λ z. let none = l.zero.nothing_held z in let h = over_more (λ p. p.standing.held) vs (OfPass first_pass) in omega arith;
      known = l.zero.known;
      settled = l.zero.settled;
    };
    mark = λ h. let seat = l.mark h in let m = over_more (λ p. to_mark p.standing.pending) vs (OfPass first_pass) in omega arith;
    guard = record { passes = each_more _ vs (OfPass first_pass) l.guard.passes (λ h. tt); known = l.guard.known };
    front = record { parity = l.front.parity; known = l.front.known; floors = each_more _ vs (OfPass first_pass) l.front.floors (omega arith, omega arith) };
    release = record {
      releases = let e = over_more (λ p. p.releases) vs (OfPass first_pass) in let f = l.release.releases in omega arith;
      zeros = l.release.zeros;
      kills = l.release.kills;
      passes = let e = over_more (λ p. 1) vs (OfPass first_pass) in let f = l.release.passes in omega arith;
      found_dead = each_more _ vs (OfPass first_pass) l.release.found_dead never;
      found_zero = each_more _ vs (OfPass first_pass) l.release.found_zero never;
      control_found_dead = l.release.control_found_dead;
      control_found_zero = l.release.control_found_zero;
    };
    limit = record {
      passes = few;
      held = each_more _ vs (OfPass first_pass) l.limit.held (omega arith);
      some_slot = l.limit.some_slot;
      slots = l.limit.slots;
      deltas = l.limit.deltas;
      uncollected_most = l.limit.uncollected_most;
      uncollected_least = l.limit.uncollected_least;
      kills = l.limit.kills;
      front = l.limit.front;
    };
  }

pub splitting_keeps_laws : SplittingKeepsLaws
splitting_keeps_laws o cells [] i d l at few = absurd l
splitting_keeps_laws o cells (OfPass q ∷ vs) i d l at few = absurd l
splitting_keeps_laws o cells (Spent ∷ vs) i d l at few = absurd l
splitting_keeps_laws o cells (OfControl c ∷ vs) zero d l at few = one_more o cells d vs (subst (λ (x : ControlView). Laws o cells x vs) (same_control c d at) l) few
splitting_keeps_laws o cells (OfControl c ∷ vs) (suc i) d l at few = no_other o cells c d vs i l at
