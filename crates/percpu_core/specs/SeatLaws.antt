-- Each step of a seat keeps the laws, in the form that a table of words and views requires.
use Rattle.std.specs.Prelude.{◌≡◌, ℕ, ◌+◌, ◌≤◌, true, None, List, [], ◌∷◌, ◌++◌, slice_set}
use mathlib.Core.Option.{some}
use lib.ListN.{get_elem?}
use Rattle.percpu_core.specs.declared.pass_event.PassEvent.{PassEvent}
use Rattle.percpu_core.specs.declared.control_event.ControlEvent.{ControlEvent}
use Rattle.percpu_core.specs.declared.control_event.ControlEvent.TheVariants.{Join}
use Rattle.percpu_core.specs.declared.pass_standing.Pending.TheVariants.{Nothing}
use Rattle.percpu_core.specs.declared.view.PassView.{PassView}
use Rattle.percpu_core.specs.declared.view.ControlView.{ControlView}
use Rattle.percpu_core.specs.declared.view.View.{View}
use Rattle.percpu_core.specs.declared.view.View.TheVariants.{OfControl, OfPass, Spent}
use Rattle.percpu_core.specs.Cells.{Cells, sizes_of}
use Rattle.percpu_core.specs.ReleaseLaw.{Origin}
use Rattle.percpu_core.specs.declared.limits.TheConstants.{PASS_LIMIT}
use Rattle.percpu_core.specs.Laws.{Lawful}
use Rattle.percpu_core.specs.PassSteps.{hinders_pass, cells_after_pass}
use Rattle.percpu_core.specs.ControlSteps.{hinders_control, cells_after_control}
use Rattle.percpu_core.specs.PassLearns.{pass_view_after}
use Rattle.percpu_core.specs.ControlLearns.{control_view_after, joined}
use Rattle.percpu_core.specs.Machine.{IsEnabled}
use Rattle.percpu_core.specs.Starts.{Opening, IsWithinLimits, first_cells}
use Rattle.percpu_core.specs.Snapshots.{first_pass, first_control, origin_of}

-- a seat has this view
abbrev pub Sees : List View → ℕ → View → Type 0
Sees views i v = get_elem? views i ≡ some v

-- whatever the memory and the views are, a step of a pass that is enabled by its own view keeps the laws
abbrev pub PassStepsKeepLaws : Type 0
PassStepsKeepLaws = (o : Origin) (cells : Cells) (views : List View) (i : ℕ) (p : PassView) (e : PassEvent) → Lawful o cells views → Sees views i (OfPass p)
    → IsEnabled (hinders_pass (sizes_of cells) p.standing e)
    → Lawful o (cells_after_pass e cells) (slice_set views i (OfPass (pass_view_after e cells p)))

-- so does a step of the control except the taking in of a pass; to store a guarded word it has to know that ZERO is set, and then it is
abbrev pub ControlStepsKeepLaws : Type 0
ControlStepsKeepLaws = (o : Origin) (cells : Cells) (views : List View) (i : ℕ) (c : ControlView) (e : ControlEvent) → Lawful o cells views → Sees views i (OfControl c)
    → ((k : ℕ) → e ≡ Join k → ⊥) → IsEnabled (hinders_control (sizes_of cells) cells.shared.zero None c.standing e)
    → Lawful o (cells_after_control e c.standing cells) (slice_set views i (OfControl (control_view_after e cells c)))

-- what the control knows of ZERO is true
abbrev pub KnownZeroIsSet : Type 0
KnownZeroIsSet = (o : Origin) (cells : Cells) (views : List View) (i : ℕ) (c : ControlView) → Lawful o cells views → Sees views i (OfControl c) → c.knows_zero ≡ true → cells.shared.zero ≡ true

-- the control may take in a pass that holds no reference and has no pending step
abbrev pub JoiningKeepsLaws : Type 0
JoiningKeepsLaws = (o : Origin) (cells : Cells) (views : List View) (i j : ℕ) (c : ControlView) (p : PassView) → Lawful o cells views → Sees views i (OfControl c) → Sees views j (OfPass p)
    → p.standing.held ≡ 0 → p.standing.pending ≡ Nothing → Lawful o cells (slice_set (slice_set views i (OfControl (joined c p))) j Spent)

-- the control's view once it has made one more pass
abbrev pub with_one_more : ControlView → ControlView
with_one_more c = record c { passes = c.passes + 1 }

-- a new pass may be split from the control while it has fewer than the maximum
abbrev pub SplittingKeepsLaws : Type 0
SplittingKeepsLaws = (o : Origin) (cells : Cells) (views : List View) (i : ℕ) (c : ControlView) → Lawful o cells views → Sees views i (OfControl c) → c.passes + 1 ≤ PASS_LIMIT
    → Lawful o cells (slice_set views i (OfControl (with_one_more c)) ++ OfPass first_pass ∷ [])

-- a gate may begin with the control alone
abbrev pub OpeningIsLawful : Type 0
OpeningIsLawful = (o : Opening) → IsWithinLimits o → Lawful (origin_of o) (first_cells o) (OfControl (record (first_control o) { passes = 0 }) ∷ [])
