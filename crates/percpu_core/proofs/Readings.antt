-- A pass that holds nothing may give up or take over whatever it has read; and no reason against a step enables it.
use Rattle.std.proofs.Common.{◌≡◌, ℕ, zero, suc, Bool, false, inl, inr, List, [], ◌∷◌, set, refl, arith, sym, subst}
use Rattle.std.specs.Prelude.{find, Some, None, if◌then◌else◌}
use mathlib.Core.Option.{some}
use lib.ListN.{get_elem?}
use Rattle.percpu_core.specs.declared.not_enabled.NotEnabled.{NotEnabled}
use Rattle.percpu_core.specs.declared.view.WordRead.{WordRead}
use Rattle.percpu_core.specs.declared.view.PassView.{PassView}
use Rattle.percpu_core.specs.declared.view.ControlView.{ControlView}
use Rattle.percpu_core.specs.declared.view.View.{View}
use Rattle.percpu_core.specs.declared.view.View.TheVariants.{OfControl, OfPass, Spent}
use Rattle.percpu_core.specs.Cells.{Cells}
use Rattle.percpu_core.specs.ReleaseLaw.{Origin}
use Rattle.percpu_core.specs.Laws.{Laws, Lawful}
use Rattle.percpu_core.specs.Machine.{order, IsEnabled}
use Rattle.percpu_core.specs.SeatLaws.{Sees}
use Rattle.percpu_core.proofs.PassEvents.{floors, room, dead_found, zero_found}
use Rattle.percpu_core.proofs.PassKeeps.{PassChange, on_shared, pass_keeps}
use Rattle.percpu_core.proofs.SeatSteps.{not_control}

module _ (o : Origin) (cells : Cells) (c : ControlView) (vs : List View) (l : Laws o cells c vs) (i : ℕ) (p : PassView) (at : get_elem? vs i ≡ some (OfPass p)) (read : List WordRead) (none : p.standing.held ≡ 0) where
  changes_nothing : PassChange cells c p cells.shared cells.slots (record p { read = read })
  changes_nothing = record {
    counts = on_shared o cells c vs l p (record p { read = read }) cells.shared refl;
    dead = refl;
    zero = inl (refl, refl, λ z. omega arith);
    mark = λ h. inr (h, omega arith);
    read = λ h. absurd (omega arith);
    floor = (floors o cells c vs l i p at).0;
    seen_front = (floors o cells c vs l i p at).1;
    room = room o cells c vs l i p at;
    found_dead = dead_found o cells c vs l i p at;
    found_zero = zero_found o cells c vs l i p at;
  }

  with_reading : Laws o cells c (set vs i (OfPass (record p { read = read })))
  with_reading = pass_keeps o cells c vs l i p (record p { read = read }) cells.shared cells.slots at changes_nothing

-- whatever it has read, the laws hold
pub reads_anything : (o : Origin) (cells : Cells) (views : List View) (i : ℕ) (p : PassView) (read : List WordRead) → Lawful o cells views → Sees views i (OfPass p) → p.standing.held ≡ 0
    → Lawful o cells (set views i (OfPass (record p { read = read })))
reads_anything o cells [] i p read l at none = absurd l
reads_anything o cells (OfPass q ∷ vs) i p read l at none = absurd l
reads_anything o cells (Spent ∷ vs) i p read l at none = absurd l
reads_anything o cells (OfControl c ∷ vs) zero p read l at none = not_control c p at
reads_anything o cells (OfControl c ∷ vs) (suc i) p read l at none = with_reading o cells c vs l i p at read none

none_found : {X : Type 0} (p : X → Bool) (xs : List X) → ((x : X) → p x ≡ false) → find p xs ≡ None
none_found p [] h = refl
none_found p (x ∷ xs) h = subst (λ (b : Bool). (if b then Some x else find p xs) ≡ None) (sym (h x)) (none_found p xs h)

-- if no reason holds against a step it is enabled
pub unhindered : (p : NotEnabled → Bool) → ((why : NotEnabled) → p why ≡ false) → IsEnabled p
unhindered p h = none_found p order h
