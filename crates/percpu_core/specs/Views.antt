-- Counts over what the seats of a gate know.
use Rattle.std.specs.Prelude.{ℕ, ◌+◌, Bool, true, false, List, [], ◌∷◌}
use Rattle.percpu_core.specs.declared.pass_standing.Pending.{Pending}
use Rattle.percpu_core.specs.declared.pass_standing.Pending.TheVariants.{OneToUndo, ZeroToMark}
use Rattle.percpu_core.specs.declared.view.PassView.{PassView}
use Rattle.percpu_core.specs.declared.view.View.{View}
use Rattle.percpu_core.specs.declared.view.View.TheVariants.{OfControl, OfPass, Spent}

-- 1 if the test holds
abbrev pub count : Bool → ℕ
count true = 1
count false = 0

-- additions that a pending pass is to undo
abbrev pub to_undo : Pending → ℕ
to_undo OneToUndo = 1
to_undo _ = 0

-- zeros that a pending pass is to mark
abbrev pub to_mark : Pending → ℕ
to_mark ZeroToMark = 1
to_mark _ = 0

-- f of a pass's view; other views count nothing
abbrev pub of_pass : (PassView → ℕ) → View → ℕ
of_pass f (OfPass p) = f p
of_pass f (OfControl c) = 0
of_pass f Spent = 0

-- the sum of f over the passes that haven't joined
abbrev pub over_passes : (PassView → ℕ) → List View → ℕ
over_passes f [] = 0
over_passes f (v ∷ vs) = of_pass f v + over_passes f vs

abbrev pub held_by_all : List View → ℕ
held_by_all others = over_passes (λ p. p.standing.held) others

abbrev pub additions_to_undo : List View → ℕ
additions_to_undo others = over_passes (λ p. to_undo p.standing.pending) others

abbrev pub zeros_to_mark : List View → ℕ
zeros_to_mark others = over_passes (λ p. to_mark p.standing.pending) others

abbrev pub releases_of_passes : List View → ℕ
releases_of_passes others = over_passes (λ p. p.releases) others

abbrev pub passes_left : List View → ℕ
passes_left others = over_passes (λ p. 1) others

-- the view is spent, or it is the view of a pass and P holds of it
abbrev pub IfPass : (PassView → Type 0) → View → Type 0
IfPass P (OfPass p) = P p
IfPass P (OfControl c) = ⊥
IfPass P Spent = Unit {0}

-- each of these views is spent, or it is the view of a pass and P holds of it
abbrev pub EachPass : (PassView → Type 0) → List View → Type 0
EachPass P [] = Unit {0}
EachPass P (v ∷ vs) = IfPass P v × EachPass P vs
