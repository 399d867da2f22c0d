-- Taking in a pass keeps the laws.
use Rattle.std.proofs.Common.{◌≡◌, ℕ, ◌+◌, List, set, arith, ap, ◌∙◌}
use mathlib.Core.Option.{some}
use lib.ListN.{get_elem?}
use Rattle.percpu_core.specs.declared.pass_standing.Pending.TheVariants.{Nothing}
use Rattle.percpu_core.specs.declared.view.PassView.{PassView}
use Rattle.percpu_core.specs.declared.view.ControlView.{ControlView}
use Rattle.percpu_core.specs.declared.view.View.{View}
use Rattle.percpu_core.specs.declared.view.View.TheVariants.{OfPass, Spent}
use Rattle.percpu_core.specs.Cells.{Cells}
use Rattle.percpu_core.specs.Phases.{holds_base}
use Rattle.percpu_core.specs.Views.{count, to_undo, to_mark, held_by_all, additions_to_undo, zeros_to_mark}
use Rattle.percpu_core.specs.SumLaw.{SumLaw}
use Rattle.percpu_core.specs.ReleaseLaw.{Origin}
use Rattle.percpu_core.specs.Laws.{Laws}
use Rattle.percpu_core.specs.ControlLearns.{joined}
use Rattle.percpu_core.proofs.Passes.{over_passes-set, EachPass-at, EachPass-set}
use Rattle.percpu_core.proofs.Flags.{or_cases}
use Rattle.percpu_core.proofs.Counting.{balance}

module _ (o : Origin) (cells : Cells) (c : ControlView) (vs : List View) (l : Laws o cells c vs) (i : ℕ) (p : PassView) (at : get_elem? vs i ≡ some (OfPass p))
    (none : p.standing.held ≡ 0) (idle : p.standing.pending ≡ Nothing) where
  abbrev vs' : List View
  vs' = set vs i Spent

  held : held_by_all vs' ≡ held_by_all vs
  held = let e = over_passes-set (λ p. p.standing.held) vs i (OfPass p) Spent at in omega arith

  undo : additions_to_undo vs' ≡ additions_to_undo vs
  undo = let e = over_passes-set (λ p. to_undo p.standing.pending) vs i (OfPass p) Spent at in let nought : to_undo p.standing.pending ≡ 0 = ap to_undo idle in omega arith

  marks : zeros_to_mark vs' ≡ zeros_to_mark vs
  marks = let e = over_passes-set (λ p. to_mark p.standing.pending) vs i (OfPass p) Spent at in let nought : to_mark p.standing.pending ≡ 0 = ap to_mark idle in omega arith

  sum : SumLaw cells (joined c p) vs'
  sum = let base : ℕ = count (holds_base c.standing.phase) in let h = held in let u = undo in
      balance cells.shared.value cells.shared.value (base + held_by_all vs + additions_to_undo vs) (base + held_by_all vs' + additions_to_undo vs') _ _ _ l.sum (omega arith)

  pub join : Laws o cells (joined c p) vs'
  join = record {
    sum = sum;
    phase = record { slots = l.phase.slots; closed = l.phase.closed; opening = l.phase.opening; dead = l.phase.dead; killing = l.phase.killing };
    zero = record { after_drop = l.zero.after_drop; nothing_held = λ z. held ∙ l.zero.nothing_held z; known = l.zero.known; settled = l.zero.settled };
    mark = λ h. let seat = l.mark h in let m = marks in omega arith;
    guard = record { passes = EachPass-set _ _ (λ q h. h) vs i Spent l.guard.passes tt; known = l.guard.known };
    front = record { parity = l.front.parity; known = l.front.known; floors = EachPass-set _ _ (λ q h. h) vs i Spent l.front.floors tt };
    release = record {
      releases = let e = over_passes-set (λ p. p.releases) vs i (OfPass p) Spent at in let f = l.release.releases in omega arith;
      zeros = l.release.zeros;
      kills = l.release.kills;
      passes = let e = over_passes-set (λ p. 1) vs i (OfPass p) Spent at in let f = l.release.passes in omega arith;
      found_dead = EachPass-set _ _ (λ q h. h) vs i Spent l.release.found_dead tt;
      found_zero = EachPass-set _ _ (λ q h. h) vs i Spent l.release.found_zero tt;
      control_found_dead = or_cases c.found_dead p.found_dead l.release.control_found_dead (EachPass-at _ vs i (OfPass p) l.release.found_dead at);
      control_found_zero = or_cases c.found_zero p.found_zero l.release.control_found_zero (EachPass-at _ vs i (OfPass p) l.release.found_zero at);
    };
    limit = record {
      passes = let h = l.limit.passes in omega arith;
      held = EachPass-set _ _ (λ q h. h) vs i Spent l.limit.held tt;
      some_slot = l.limit.some_slot;
      slots = l.limit.slots;
      deltas = l.limit.deltas;
      uncollected_most = l.limit.uncollected_most;
      uncollected_least = l.limit.uncollected_least;
      kills = l.limit.kills;
      front = l.limit.front;
    };
  }
