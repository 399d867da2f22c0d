-- The guard law: guarded words don't change while a reference is held.
use Rattle.std.specs.Prelude.{◌≡◌, ℕ, ◌<◌, Some, slice_get, List, [], ◌∷◌}
use Rattle.percpu_core.specs.declared.view.WordRead.{WordRead}
use Rattle.percpu_core.specs.declared.view.View.{View}
use Rattle.percpu_core.specs.declared.view.ControlView.{ControlView}
use Rattle.percpu_core.specs.Cells.{Cells}
use Rattle.percpu_core.specs.Views.{EachPass}

-- each word that was read is that guarded word now
abbrev pub AreNow : List ℕ → List WordRead → Type 0
AreNow words [] = Unit {0}
AreNow words (r ∷ rs) = (slice_get words r.word ≡ Some r.value) × AreNow words rs

pub record GuardLaw (cells : Cells) (control : ControlView) (others : List View) : Type 0 where
  -- what a pass with a reference has read is still true
  pub passes : EachPass (λ p. 0 < p.standing.held → AreNow cells.words p.read) others
  -- the control's words are the guarded words
  pub known : control.words ≡ cells.words
