-- What the laws say of a gate's last moment, when every pass is retired and no kill is under way.
use Rattle.std.proofs.Common.{◌≡◌, ℕ, zero, suc, ◌+◌, ◌≤◌, ◌==◌, Bool, true, false, not, ◌&&◌, Some, None, List, [], ◌∷◌, map, if◌then◌else◌, nat_le, refl, ap, sym, ◌∙◌, subst, arith}
use mathlib.Core.Option.{some}
use Rattle.atomic_table.specs.Table.{State, Me, Seen}
use Rattle.atomic_table.proofs.Lists.{at_map}
use Rattle.percpu_words.specs.SharedWord.{SharedWord}
use Rattle.percpu_core.specs.declared.phase.Phase.{Phase}
use Rattle.percpu_core.specs.declared.phase.Phase.TheVariants.{LiveSlots, LiveAtomic, Closing, Collected, Confirmed, Dead, Reviving, Fronted, Opening}
use Rattle.percpu_core.specs.declared.view.PassView.{PassView}
use Rattle.percpu_core.specs.declared.view.ControlView.{ControlView}
use Rattle.percpu_core.specs.declared.view.View.{View}
use Rattle.percpu_core.specs.declared.view.View.TheVariants.{OfControl, OfPass, Spent}
use Rattle.percpu_core.specs.Cells.{Cells, is_dead_alone}
use Rattle.percpu_core.specs.Phases.{is_phase, is_mid_switch, is_dead_in, may_be_zero, has_bias, holds_base}
use Rattle.percpu_core.specs.Views.{count, to_undo, to_mark, over_passes, passes_left}
use Rattle.percpu_core.specs.Laws.{Laws, Lawful}
use Rattle.percpu_core.specs.SeatLaws.{Sees}
use Rattle.percpu_core.specs.ReleaseLaw.{Origin}
use Rattle.percpu_core.specs.Starts.{starts_dead}
use Rattle.percpu_core.specs.declared.start.Start.{Start}
use Rattle.percpu_core.proofs.SeatSteps.{same_control}
use Rattle.percpu_core.proofs.Counting.{value-unbiased}
use Rattle.percpu_core.proofs.Passes.{EachPass-at}
use Rattle.percpu_gate.specs.declared.rule.GateKey.{GateKey}
use Rattle.percpu_gate.specs.declared.rule.SeatView.{SeatView}
use Rattle.percpu_gate.specs.declared.exit.ExitWhy.TheVariants.{MidSwitch, PassesOut}
use Rattle.percpu_gate.specs.Rule.{MomentOf, Ruled, view_of}
use Rattle.percpu_gate.specs.Seats.{GateFacts, Moment, zero_at}
use Rattle.percpu_gate.specs.ControlCalls.{IsBetweenCalls, exit_refusal}
use Rattle.percpu_gate.specs.Exits.{Ended}

-- if no pass is left, passes count nothing
none_left : (f : PassView → ℕ) (vs : List View) → passes_left vs ≡ 0 → over_passes f vs ≡ 0
none_left f [] none = refl
none_left f (OfPass p ∷ vs) none = absurd (omega arith)
none_left f (OfControl c ∷ vs) none = let rest = none_left f vs (omega arith) in omega arith
none_left f (Spent ∷ vs) none = let rest = none_left f vs (omega arith) in omega arith

never : (b : Bool) → (b ≡ true → false ≡ true) → b ≡ false
never true h = sym (h refl)
never false h = refl

always : (b : Bool) → (b ≡ false → ⊥) → b ≡ true
always true h = refl
always false h = absurd (h refl)

alone : (s : SharedWord) → s.dead ≡ true → s.zero ≡ false → s.value ≡ 0 → is_dead_alone s ≡ true
alone s dead clear none = λ j. dead j && not (clear j) && (none j == 0)

module _ (o : Origin) (cells : Cells) (c : ControlView) (vs : List View) (l : Laws o cells c vs) (none : c.passes ≡ 0) (marked : c.standing.to_mark ≡ false) where
  left : passes_left vs ≡ 0
  left = sym l.release.passes ∙ none

  -- a dead gate that is at zero has been marked
  dead_at_zero : c.standing.phase ≡ Dead → cells.shared.zero ≡ true
  dead_at_zero is = always cells.shared.zero (λ clear.
      let unbiased = value-unbiased o cells c vs l (ap has_bias is) in let base : count (holds_base c.standing.phase) ≡ 0 = ap (λ (x : Phase). count (holds_base x)) is in
      let held = none_left (λ p. p.standing.held) vs left in let undo = none_left (λ p. to_undo p.standing.pending) vs left in
      let marks = none_left (λ p. to_mark p.standing.pending) vs left in let own : count c.standing.to_mark ≡ 0 = ap count marked in
      let owes = l.mark (alone cells.shared (l.phase.dead ∙ ap (λ (x : Phase). is_dead_in x c.killing) is) clear (omega arith)) in omega arith)

  zero_in : (x : Phase) → c.standing.phase ≡ x → IsBetweenCalls x → exit_refusal x 0 ≡ None → cells.shared.zero ≡ is_phase Dead x
  zero_in LiveSlots is b ends = never cells.shared.zero (λ z. sym (ap may_be_zero is) ∙ l.zero.after_drop z)
  zero_in LiveAtomic is b ends = never cells.shared.zero (λ z. sym (ap may_be_zero is) ∙ l.zero.after_drop z)
  zero_in (Closing i) is b ends = cc
  zero_in Collected is b ends = cc
  zero_in Confirmed is b ends = cc
  zero_in Dead is b ends = dead_at_zero is
  zero_in Reviving is b ends = absurd b
  zero_in Fronted is b ends = absurd b
  zero_in (Opening i) is b ends = absurd b

  dead_in : (x : Phase) → c.standing.phase ≡ x → IsBetweenCalls x → exit_refusal x 0 ≡ None → cells.shared.dead ≡ is_phase Dead x
  dead_in LiveSlots is b ends = l.phase.dead ∙ ap (λ (x : Phase). is_dead_in x c.killing) is
  dead_in LiveAtomic is b ends = l.phase.dead ∙ ap (λ (x : Phase). is_dead_in x c.killing) is
  dead_in (Closing i) is b ends = cc
  dead_in Collected is b ends = cc
  dead_in Confirmed is b ends = cc
  dead_in Dead is b ends = l.phase.dead ∙ ap (λ (x : Phase). is_dead_in x c.killing) is
  dead_in Reviving is b ends = absurd b
  dead_in Fronted is b ends = absurd b
  dead_in (Opening i) is b ends = absurd b

-- what the control knows at the end
record Knows (start_dead : Bool) (cells : Cells) (c : ControlView) : Type 0 where
  pub at_zero : cells.shared.zero ≡ is_phase Dead c.standing.phase
  pub releases : c.releases + count start_dead ≡ c.zeros_cleared + count (is_phase Dead c.standing.phase)
  pub at_most : c.releases ≤ c.standing.kills
  pub found_dead : c.found_dead ≡ true → 1 ≤ c.standing.kills + count start_dead
  pub found_zero : c.found_zero ≡ true → 1 ≤ c.releases + count start_dead

ends : (o : Origin) (cells : Cells) (c : ControlView) (vs : List View) → Laws o cells c vs → o.kills ≡ 0 → c.standing.to_mark ≡ false → IsBetweenCalls c.standing.phase
    → exit_refusal c.standing.phase c.passes ≡ None → c.passes ≡ 0 → Knows o.dead cells c
ends o cells c vs l fresh marked between refusal none =
    let free : exit_refusal c.standing.phase 0 ≡ None = subst (λ (n : ℕ). exit_refusal c.standing.phase n ≡ None) none refusal in
    let zero = zero_in o cells c vs l none marked c.standing.phase refl between free in let dead = dead_in o cells c vs l none marked c.standing.phase refl between free in
    let zeros : count cells.shared.zero ≡ count (is_phase Dead c.standing.phase) = ap count zero in let deads : count cells.shared.dead ≡ count (is_phase Dead c.standing.phase) = ap count dead in
    let others = none_left (λ p. p.releases) vs (left o cells c vs l none marked) in let won = l.release.releases in let cleared = l.release.zeros in let kills = l.release.kills in record {
      at_zero = zero;
      releases = omega arith;
      at_most = omega arith;
      found_dead = λ found. let some = l.release.control_found_dead found in omega arith;
      found_zero = λ found. let some = l.release.control_found_zero found in omega arith;
    }

of_moment : (o : Origin) (cells : Cells) (views : List View) (id : ℕ) (c : ControlView) → Lawful o cells views → Sees views id (OfControl c) → o.kills ≡ 0 → c.standing.to_mark ≡ false
    → IsBetweenCalls c.standing.phase → exit_refusal c.standing.phase c.passes ≡ None → c.passes ≡ 0 → Knows o.dead cells c
of_moment o cells [] id c l sees fresh marked between refusal none = absurd l
of_moment o cells (OfPass q ∷ vs) id c l sees fresh marked between refusal none = absurd l
of_moment o cells (Spent ∷ vs) id c l sees fresh marked between refusal none = absurd l
of_moment o cells (OfControl d ∷ vs) zero c l sees fresh marked between refusal none =
    ends o cells c vs (subst (λ (x : ControlView). Laws o cells x vs) (same_control d c sees) l) fresh marked between refusal none
of_moment o cells (OfControl d ∷ vs) (suc i) c l sees fresh marked between refusal none = absurd (EachPass-at _ vs i (OfControl c) l.limit.held sees)

-- no pass is left if the end isn't refused
none_by : (mid some_out : Bool) (n : ℕ) → (if mid then Some MidSwitch else (if some_out then Some (PassesOut n) else None)) ≡ None → some_out ≡ false
none_by true some_out n is = cc
none_by false true n is = cc
none_by false false n is = refl

no_more : (n : ℕ) → nat_le 1 n ≡ false → n ≡ 0
no_more n is = grind arith

none_out : (x : Phase) (n : ℕ) → exit_refusal x n ≡ None → n ≡ 0
none_out x n ends = no_more n (none_by (is_mid_switch x) (nat_le 1 n) n ends)

pub ended : (g : GateFacts) (c : ControlView) (m : Moment g (OfControl c)) → c.standing.to_mark ≡ false → IsBetweenCalls c.standing.phase → exit_refusal c.standing.phase c.passes ≡ None → Ended g c
ended g c m marked between refusal =
    let knows : (m : Moment g (OfControl c)) → Knows (starts_dead g.start) m.cells c = λ m. of_moment _ m.cells m.views m.seat c m.lawful m.sees refl marked between refusal (none_out c.standing.phase c.passes refusal) in
    let k = knows m in record { last = m; at_zero = λ m. (knows m).at_zero; releases = k.releases; at_most = k.at_most; found_dead = k.found_dead; found_zero = k.found_zero }

-- a dead gate whose control has no pass out is at zero
pub none_out_at_zero : {slots words : ℕ} {start : Start} (c : ControlView) (m : MomentOf slots start words (OfControl c)) → c.standing.to_mark ≡ false → c.passes ≡ 0 → c.standing.phase ≡ Dead → zero_at m ≡ true
none_out_at_zero c m marked none dead = (of_moment _ m.cells m.views m.seat c m.lawful m.sees refl marked (subst IsBetweenCalls (sym dead) tt) (λ j. exit_refusal (dead j) (none j)) none).at_zero ∙ ap (is_phase Dead) dead

-- the last state of a table, seen by the control's seat, is a moment of its gate
pub last_moment : (k : GateKey) (id : ℕ) (me : Me (Unit {0}) SeatView) (c : ControlView) → me ≡ (record me.0 { view = OfControl c }, []) → (s : State (Unit {0}) SeatView)
    → Seen (Ruled k) id me.0 s → MomentOf k.slots k.start k.count (OfControl c)
last_moment k id me c is s seen = let r = seen.0 in record {
  cells = r.cells;
  slots = r.spelled.slots;
  guarded = r.spelled.guarded;
  views = map view_of s.views;
  seat = id;
  lawful = r.lawful;
  sees = at_map view_of s.views id me.0 seen.1 ∙ ap (λ (m : Me (Unit {0}) SeatView). some m.0.view) is;
}
