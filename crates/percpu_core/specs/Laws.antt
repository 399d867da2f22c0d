-- All laws of a gate.
use Rattle.std.specs.Prelude.{List, [], ◌∷◌}
use Rattle.percpu_core.specs.declared.view.View.TheVariants.{OfControl, OfPass, Spent}
use Rattle.percpu_core.specs.declared.view.View.{View}
use Rattle.percpu_core.specs.declared.view.ControlView.{ControlView}
use Rattle.percpu_core.specs.Cells.{Cells}
use Rattle.percpu_core.specs.SumLaw.{SumLaw}
use Rattle.percpu_core.specs.PhaseLaw.{PhaseLaw}
use Rattle.percpu_core.specs.ZeroLaw.{ZeroLaw}
use Rattle.percpu_core.specs.MarkLaw.{MarkLaw}
use Rattle.percpu_core.specs.GuardLaw.{GuardLaw}
use Rattle.percpu_core.specs.FrontLaw.{FrontLaw}
use Rattle.percpu_core.specs.ReleaseLaw.{Origin, ReleaseLaw}
use Rattle.percpu_core.specs.LimitLaw.{LimitLaw}

-- the laws, of the control's view and the other views
pub record Laws (origin : Origin) (cells : Cells) (control : ControlView) (others : List View) : Type 0 where
  pub sum : SumLaw cells control others
  pub phase : PhaseLaw cells control
  pub zero : ZeroLaw cells control others
  pub mark : MarkLaw cells control others
  pub guard : GuardLaw cells control others
  pub front : FrontLaw cells control others
  pub release : ReleaseLaw origin cells control others
  pub limit : LimitLaw origin cells control others

-- the laws, of all views in one list, the control's first
abbrev pub Lawful : Origin → Cells → List View → Type 0
Lawful origin cells [] = ⊥
Lawful origin cells (OfControl c ∷ others) = Laws origin cells c others
Lawful origin cells (OfPass p ∷ others) = ⊥
Lawful origin cells (Spent ∷ others) = ⊥
