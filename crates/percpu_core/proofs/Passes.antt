-- A list of views that changes at one place: its sums, and what holds of each pass.
use Rattle.std.proofs.Common.{◌≡◌, ℕ, zero, suc, ◌+◌, ◌*◌, ◌≤◌, List, [], ◌∷◌, set, sym, ap, subst, arith}
use mathlib.Core.Option.{some, some-injective, some-ne-none}
use lib.ListN.{get_elem?}
use Rattle.percpu_core.specs.declared.view.PassView.{PassView}
use Rattle.percpu_core.specs.declared.view.View.{View}
use Rattle.percpu_core.specs.declared.view.View.TheVariants.{OfControl, OfPass, Spent}
use Rattle.percpu_core.specs.Views.{of_pass, over_passes, IfPass, EachPass, passes_left}

pub over_passes-set : (f : PassView → ℕ) (vs : List View) (i : ℕ) (v w : View) → get_elem? vs i ≡ some v → over_passes f (set vs i w) + of_pass f v ≡ over_passes f vs + of_pass f w
over_passes-set f [] i v w e = absurd (some-ne-none v (sym e))
over_passes-set f (x ∷ xs) zero v w e = let is : of_pass f x ≡ of_pass f v = ap (of_pass f) (some-injective x v e) in omega arith
over_passes-set f (x ∷ xs) (suc i) v w e = let r = over_passes-set f xs i v w e in omega arith

-- what one pass counts is at most what all count
pub over_passes-at : (f : PassView → ℕ) (vs : List View) (i : ℕ) (v : View) → get_elem? vs i ≡ some v → of_pass f v ≤ over_passes f vs
over_passes-at f [] i v e = absurd (some-ne-none v (sym e))
over_passes-at f (x ∷ xs) zero v e = let is : of_pass f x ≡ of_pass f v = ap (of_pass f) (some-injective x v e) in omega arith
over_passes-at f (x ∷ xs) (suc i) v e = let r = over_passes-at f xs i v e in omega arith

-- if each counts at most m, all count at most m each
pub over_passes-most : (f : PassView → ℕ) (m : ℕ) (vs : List View) → EachPass (λ p. f p ≤ m) vs → over_passes f vs ≤ m * passes_left vs
over_passes-most f m [] e = omega arith
over_passes-most f m (OfPass p ∷ vs) e = let r = over_passes-most f m vs e.1 in let h : f p ≤ m = e.0 in omega arith
over_passes-most f m (OfControl c ∷ vs) e = absurd e.0
over_passes-most f m (Spent ∷ vs) e = let r = over_passes-most f m vs e.1 in omega arith

module _ (P : PassView → Type 0) where
  pub EachPass-at : (vs : List View) (i : ℕ) (v : View) → EachPass P vs → get_elem? vs i ≡ some v → IfPass P v
  EachPass-at [] i v e at = absurd (some-ne-none v (sym at))
  EachPass-at (x ∷ xs) zero v e at = subst (IfPass P) (some-injective x v at) e.0
  EachPass-at (x ∷ xs) (suc i) v e at = EachPass-at xs i v e.1 at

  module _ (Q : PassView → Type 0) (to : (q : PassView) → P q → Q q) where
    IfPass-map : (v : View) → IfPass P v → IfPass Q v
    IfPass-map (OfPass p) h = to p h
    IfPass-map (OfControl c) h = h
    IfPass-map Spent h = h

    pub EachPass-map : (vs : List View) → EachPass P vs → EachPass Q vs
    EachPass-map [] e = tt
    EachPass-map (x ∷ xs) e = (IfPass-map x e.0, EachPass-map xs e.1)

    pub EachPass-set : (vs : List View) (i : ℕ) (w : View) → EachPass P vs → IfPass Q w → EachPass Q (set vs i w)
    EachPass-set [] i w e h = tt
    EachPass-set (x ∷ xs) zero w e h = (h, EachPass-map xs e.1)
    EachPass-set (x ∷ xs) (suc i) w e h = (IfPass-map x e.0, EachPass-set xs i w e.1 h)
