-- What the laws say to a seat of a gate at a moment.
use Rattle.std.specs.Prelude.{ℤ, Option}
use Rattle.std.proofs.Common.{length, ◌≡◌, ℕ, zero, suc, ◌+◌, ◌*◌, ◌%◌, ◌^◌, ◌<◌, ◌≤◌, true, false, List, [], ◌∷◌, refl, ap, sym, ◌∙◌, subst, arith}
use mathlib.Core.Option.{some}
use lib.ListN.{get_elem?}
use Rattle.percpu_core.specs.declared.limits.TheConstants.{SLOT_LIMIT}
use Rattle.percpu_core.specs.declared.start.Start.{Start}
use Rattle.percpu_core.specs.declared.view.PassView.{PassView}
use Rattle.percpu_core.specs.declared.view.ControlView.{ControlView}
use Rattle.percpu_core.specs.declared.view.View.{View}
use Rattle.percpu_core.specs.declared.view.View.TheVariants.{OfControl, OfPass, Spent}
use Rattle.percpu_core.specs.declared.slot.Slot.TheVariants.{Open}
use Rattle.percpu_core.specs.declared.phase.Phase.{Phase}
use Rattle.percpu_core.specs.declared.phase.Phase.TheVariants.{LiveSlots, LiveAtomic, Closing, Collected, Confirmed, Dead, Reviving, Fronted, Opening}
use Rattle.percpu_core.specs.Cells.{Cells, slot_at, is_open, sizes_of}
use Rattle.percpu_core.specs.Views.{count, to_undo, releases_of_passes}
use Rattle.percpu_core.specs.Phases.{has_odd_front, is_dead_in, is_open_in, holds_base, is_coming_back, may_be_zero}
use Rattle.percpu_core.specs.LimitLaw.{fronts_due, AreSmall}
use Rattle.percpu_core.specs.GuardLaw.{AreNow}
use Rattle.percpu_core.specs.ReleaseLaw.{Origin}
use Rattle.percpu_core.specs.Laws.{Laws, Lawful}
use Rattle.percpu_core.specs.SeatLaws.{Sees}
use Rattle.percpu_core.proofs.Passes.{over_passes-at, EachPass-at}
use Rattle.percpu_core.proofs.SeatSteps.{same_control}
use Rattle.percpu_core.specs.declared.control_event.ControlEvent.{ControlEvent}
use Rattle.percpu_core.specs.declared.pass_standing.PassStanding.{PassStanding}
use Rattle.percpu_core.specs.ControlSteps.{hinders_control}
use Rattle.percpu_core.specs.Machine.{IsEnabled}
use Rattle.percpu_core.specs.StepsFit.{ControlFits}
use Rattle.percpu_core.proofs.Fitting.{control_fits}
use Rattle.percpu_core.proofs.SlotEvents.{clear}
use Rattle.percpu_core.proofs.SlotLists.{slot_there}
use Rattle.percpu_core.proofs.Counting.{count-most, value-least, value-most}
use Rattle.percpu_gate.specs.Rule.{MomentOf}
use Rattle.percpu_core.proofs.PassEvents.{even_front, zero_is_dead, held_in_value, undo_in_value}

-- in a phase in which a slot is open the front is even
even_while_open : (x : Phase) (k : ℕ) → is_open_in x k ≡ true → has_odd_front x ≡ false
even_while_open LiveSlots k h = refl
even_while_open LiveAtomic k h = refl
even_while_open (Closing i) k h = refl
even_while_open Collected k h = refl
even_while_open Confirmed k h = cc
even_while_open Dead k h = cc
even_while_open Reviving k h = cc
even_while_open Fronted k h = refl
even_while_open (Opening i) k h = refl

-- what a pass knows of the memory
pub record PassKnows (cells : Cells) (p : PassView) : Type 0 where
  pub small : cells.shared.value < 2 ^ 49
  pub held : p.standing.held ≤ cells.shared.value
  pub undo : to_undo p.standing.pending ≤ cells.shared.value
  pub none_at_zero : cells.shared.zero ≡ true → p.standing.held ≡ 0
  pub zero_is_dead : cells.shared.zero ≡ true → cells.shared.dead ≡ true
  pub floor : p.floor ≤ cells.front
  pub seen_front : p.seen_front ≤ p.floor
  pub even : cells.shared.dead ≡ false → cells.front % 2 ≡ 0
  pub read : 0 < p.standing.held → AreNow cells.words p.read
  pub releases : p.releases ≤ 2 ^ 40 + 2
  pub deltas : AreSmall cells.slots
  -- while a slot is open ZERO is clear and the front is even
  pub clear_while_open : (s : ℕ) (d : ℤ) → s < length cells.slots → slot_at cells.slots s ≡ Open d → (cells.shared.zero ≡ false) × (cells.front % 2 ≡ 0)

releases_most : (o : Origin) (cells : Cells) (c : ControlView) (vs : List View) (l : Laws o cells c vs) → c.releases + releases_of_passes vs ≤ 2 ^ 40 + 2
releases_most o cells c vs l = let won = l.release.releases in let zeros = l.release.zeros in let kills = l.release.kills in let few = l.limit.kills in
    let one = count-most o.dead in let zero = count-most cells.shared.zero in omega arith

known : (o : Origin) (cells : Cells) (c : ControlView) (vs : List View) (l : Laws o cells c vs) (i : ℕ) (p : PassView) → get_elem? vs i ≡ some (OfPass p) → PassKnows cells p
known o cells c vs l i p at = record {
  small = value-most o cells c vs l;
  held = held_in_value o cells c vs l i p at;
  undo = undo_in_value o cells c vs l i p at;
  none_at_zero = λ z. let none = l.zero.nothing_held z in let h = over_passes-at (λ q. q.standing.held) vs i (OfPass p) at in omega arith;
  zero_is_dead = λ z. zero_is_dead o cells c vs l i p at z;
  floor = (EachPass-at _ vs i (OfPass p) l.front.floors at).0;
  seen_front = (EachPass-at _ vs i (OfPass p) l.front.floors at).1;
  even = λ live. l.front.parity ∙ ap count (even_front c.standing.phase c.killing (sym l.phase.dead ∙ live));
  read = EachPass-at _ vs i (OfPass p) l.guard.passes at;
  releases = let most = releases_most o cells c vs l in let own = over_passes-at (λ q. q.releases) vs i (OfPass p) at in omega arith;
  deltas = l.limit.deltas;
  clear_while_open = λ s d there is. (
    clear o cells c vs l s d there is,
    l.front.parity ∙ ap count (even_while_open c.standing.phase s (sym (l.phase.slots s (slot_at cells.slots s) (slot_there cells.slots s there)) ∙ ap is_open is)),
  );
}

pub pass_knows : (o : Origin) (cells : Cells) (views : List View) (id : ℕ) (p : PassView) → Lawful o cells views → Sees views id (OfPass p) → PassKnows cells p
pass_knows o cells [] id p l sees = absurd l
pass_knows o cells (OfPass q ∷ vs) id p l sees = absurd l
pass_knows o cells (Spent ∷ vs) id p l sees = absurd l
pass_knows o cells (OfControl c ∷ vs) zero p l sees = cc
pass_knows o cells (OfControl c ∷ vs) (suc i) p l sees = known o cells c vs l i p sees

pub moment_knows : {slots words : ℕ} {start : Start} (p : PassView) (m : MomentOf slots start words (OfPass p)) → PassKnows m.cells p
moment_knows p m = pass_knows _ m.cells m.views m.seat p m.lawful m.sees

-- what the control knows of the memory
pub record ControlKnows (cells : Cells) (c : ControlView) : Type 0 where
  pub small : cells.shared.value < 2 ^ 49
  pub base : count (holds_base c.standing.phase) ≤ cells.shared.value
  pub zero : c.knows_zero ≡ true → cells.shared.zero ≡ true
  pub settled : is_coming_back c.standing.phase ≡ true → c.knows_zero ≡ cells.shared.zero
  pub may_be_zero : cells.shared.zero ≡ true → may_be_zero c.standing.phase ≡ true
  pub words : c.words ≡ cells.words
  pub front : c.front ≡ cells.front
  pub kills : c.front + fronts_due c.standing.phase c.killing ≤ 2 * (c.standing.kills + 1)
  pub few : c.standing.kills ≤ 2 ^ 40
  pub parity : c.front % 2 ≡ count (has_odd_front c.standing.phase)
  pub releases : c.releases ≤ 2 ^ 40 + 2
  pub deltas : AreSmall cells.slots
  pub slots_most : length cells.slots ≤ SLOT_LIMIT
  -- whether DEAD is set, and which slots are open
  pub dead : cells.shared.dead ≡ is_dead_in c.standing.phase c.killing
  pub open_slots : (s : ℕ) → s < length cells.slots → is_open (slot_at cells.slots s) ≡ is_open_in c.standing.phase s
  -- what an enabled step finds
  pub fits : (joining : Option PassStanding) (e : ControlEvent) → IsEnabled (hinders_control (sizes_of cells) cells.shared.zero joining c.standing e) → ControlFits cells c e

control_known : (o : Origin) (cells : Cells) (c : ControlView) (vs : List View) (l : Laws o cells c vs) → ControlKnows cells c
control_known o cells c vs l = let least = value-least o cells c vs l in let due = l.limit.front in let one = count-most o.dead in record {
  small = value-most o cells c vs l;
  base = omega arith;
  zero = l.zero.known;
  settled = l.zero.settled;
  may_be_zero = l.zero.after_drop;
  words = l.guard.known;
  front = l.front.known;
  kills = omega arith;
  few = l.limit.kills;
  parity = ap (λ (n : ℕ). n % 2) l.front.known ∙ l.front.parity;
  releases = let most = releases_most o cells c vs l in omega arith;
  deltas = l.limit.deltas;
  slots_most = l.limit.slots;
  dead = l.phase.dead;
  open_slots = λ s there. l.phase.slots s (slot_at cells.slots s) (slot_there cells.slots s there);
  fits = λ joining e free. control_fits o cells c vs l joining e free;
}

pub control_knows : (o : Origin) (cells : Cells) (views : List View) (id : ℕ) (c : ControlView) → Lawful o cells views → Sees views id (OfControl c) → ControlKnows cells c
control_knows o cells [] id c l sees = absurd l
control_knows o cells (OfPass q ∷ vs) id c l sees = absurd l
control_knows o cells (Spent ∷ vs) id c l sees = absurd l
control_knows o cells (OfControl d ∷ vs) zero c l sees = subst (λ (x : ControlView). ControlKnows cells x) (same_control d c sees) (control_known o cells d vs l)
control_knows o cells (OfControl d ∷ vs) (suc i) c l sees = absurd (EachPass-at _ vs i (OfControl c) l.limit.held sees)

pub moment_known : {slots words : ℕ} {start : Start} (c : ControlView) (m : MomentOf slots start words (OfControl c)) → ControlKnows m.cells c
moment_known c m = control_knows _ m.cells m.views m.seat c m.lawful m.sees

-- if there is a pass, the control has one out
pub pass_is_out : (o : Origin) (cells : Cells) (views : List View) (id other : ℕ) (c : ControlView) (p : PassView) → Lawful o cells views → Sees views id (OfControl c) → Sees views other (OfPass p) → 0 < c.passes
pass_is_out o cells [] id other c p l sees there = absurd l
pass_is_out o cells (OfPass q ∷ vs) id other c p l sees there = absurd l
pass_is_out o cells (Spent ∷ vs) id other c p l sees there = absurd l
pass_is_out o cells (OfControl d ∷ vs) id zero c p l sees there = cc
pass_is_out o cells (OfControl d ∷ vs) (suc i) (suc j) c p l sees there = absurd (EachPass-at _ vs i (OfControl c) l.limit.held sees)
pass_is_out o cells (OfControl d ∷ vs) zero (suc j) c p l sees there =
    let one = over_passes-at (λ q. 1) vs j (OfPass p) there in let all = l.release.passes in let same = ap (λ (x : ControlView). x.passes) (same_control d c sees) in omega arith
