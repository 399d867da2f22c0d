-- An enabled step of a seat fits, in the form that a running gate asks: of all views in one list.
use Rattle.std.proofs.Common.{◌≡◌, ℕ, zero, suc, List, [], ◌∷◌, Option, arith, subst}
use mathlib.Core.Option.{some}
use lib.ListN.{get_elem?}
use Rattle.percpu_core.specs.declared.pass_event.PassEvent.{PassEvent}
use Rattle.percpu_core.specs.declared.control_event.ControlEvent.{ControlEvent}
use Rattle.percpu_core.specs.declared.not_enabled.NotEnabled.TheVariants.{WrongPhase}
use Rattle.percpu_core.specs.declared.pass_standing.PassStanding.{PassStanding}
use Rattle.percpu_core.specs.declared.view.PassView.{PassView}
use Rattle.percpu_core.specs.declared.view.ControlView.{ControlView}
use Rattle.percpu_core.specs.declared.view.View.{View}
use Rattle.percpu_core.specs.declared.view.View.TheVariants.{OfControl, OfPass, Spent}
use Rattle.percpu_core.specs.Cells.{Cells, sizes_of}
use Rattle.percpu_core.specs.PassSteps.{hinders_pass}
use Rattle.percpu_core.specs.ControlSteps.{hinders_control}
use Rattle.percpu_core.specs.Machine.{IsEnabled}
use Rattle.percpu_core.specs.ReleaseLaw.{Origin}
use Rattle.percpu_core.specs.Laws.{Laws}
use Rattle.percpu_core.specs.Snapshots.{Snapshot}
use Rattle.percpu_core.specs.StepsFit.{PassFits, ControlFits, PassStepsFit, ControlStepsFit}
use Rattle.percpu_core.proofs.Enabled.{no_reason}
use Rattle.percpu_core.proofs.SeatSteps.{not_control, no_other, same_control}
use Rattle.percpu_core.proofs.Room.{PassNeeds, ControlNeeds, needs, in_turn_needs, sum_few}

pub pass_fits : (o : Origin) (cells : Cells) (c : ControlView) (vs : List View) → Laws o cells c vs → (i : ℕ) (p : PassView) (e : PassEvent) → get_elem? vs i ≡ some (OfPass p)
    → IsEnabled (hinders_pass (sizes_of cells) p.standing e) → PassFits cells e
pass_fits o cells c vs l i p e at free = let m : Snapshot = record { cells = cells; control = c; others = vs } in let n : PassNeeds cells p.standing e = needs o m l i p at e free in
    let takes = n.takes in let adds = n.adds in record { takes = takes; adds = omega arith; slots = l.limit.deltas }

pub pass_steps_fit : PassStepsFit
pass_steps_fit o cells [] i p e l at free = absurd l
pass_steps_fit o cells (OfPass q ∷ vs) i p e l at free = absurd l
pass_steps_fit o cells (Spent ∷ vs) i p e l at free = absurd l
pass_steps_fit o cells (OfControl c ∷ vs) zero p e l at free = not_control c p at
pass_steps_fit o cells (OfControl c ∷ vs) (suc i) p e l at free = pass_fits o cells c vs l i p e at free

pub control_fits : (o : Origin) (cells : Cells) (c : ControlView) (vs : List View) → Laws o cells c vs → (joining : Option PassStanding) (e : ControlEvent)
    → IsEnabled (hinders_control (sizes_of cells) cells.shared.zero joining c.standing e) → ControlFits cells c e
control_fits o cells c vs l joining e free = let m : Snapshot = record { cells = cells; control = c; others = vs } in
    let n : ControlNeeds o m l e = in_turn_needs o m l e (no_reason (hinders_control (sizes_of cells) cells.shared.zero joining c.standing e) free WrongPhase) in
    let few = sum_few o m l in record { value = n.value; next = n.next; slots = l.limit.deltas; sum = omega arith }

pub control_steps_fit : ControlStepsFit
control_steps_fit o cells [] i d joining e l at free = absurd l
control_steps_fit o cells (OfPass q ∷ vs) i d joining e l at free = absurd l
control_steps_fit o cells (Spent ∷ vs) i d joining e l at free = absurd l
control_steps_fit o cells (OfControl c ∷ vs) zero d joining e l at free =
    control_fits o cells d vs (subst (λ (x : ControlView). Laws o cells x vs) (same_control c d at) l) joining e free
control_steps_fit o cells (OfControl c ∷ vs) (suc i) d joining e l at free = no_other o cells c d vs i l at
