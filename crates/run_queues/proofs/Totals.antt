-- Sums over the views of all passes.
use Rattle.std.proofs.Common.{◌≡◌, ◌≢◌, ℕ, zero, suc, ◌+◌, ◌≤◌, List, [], ◌∷◌, ◌++◌, set, sym, refl, ap, arith, ⊎_elim, subst}
use mathlib.Core.Option.{some, some-injective, some-ne-none}
use lib.ListN.{get_elem?}
use Rattle.crossbeam_queue.proofs.Lists.{at_set}
use Rattle.run_queues.specs.Totals.{total}

module _ {V : Type 0} where
  -- the sum after a change of one view
  pub total_set : (f : V → ℕ) (views : List V) (port : ℕ) (v w : V) → get_elem? views port ≡ some v → total f (set views port w) + f v ≡ total f views + f w
  total_set f [] port v w e = absurd (some-ne-none v (sym e))
  total_set f (u ∷ us) zero v w e = let same = ap f (some-injective u v e) in omega arith
  total_set f (u ∷ us) (suc port) v w e = let rest = total_set f us port v w e in omega arith

  pub total_snoc : (f : V → ℕ) (views : List V) (v : V) → total f (views ++ v ∷ []) ≡ total f views + f v
  total_snoc f [] v = omega arith
  total_snoc f (u ∷ us) v = let rest = total_snoc f us v in omega arith

  pub at_most_total : (f : V → ℕ) (views : List V) (port : ℕ) (v : V) → get_elem? views port ≡ some v → f v ≤ total f views
  at_most_total f [] port v e = absurd (some-ne-none v (sym e))
  at_most_total f (u ∷ us) zero v e = let same = ap f (some-injective u v e) in omega arith
  at_most_total f (u ∷ us) (suc port) v e = let rest = at_most_total f us port v e in omega arith

  -- two views at different places
  pub two_at_most_total : (f : V → ℕ) (views : List V) (port other : ℕ) (v w u : V) → get_elem? views port ≡ some v → get_elem? (set views port u) other ≡ some w → other ≢ port → f v + f w ≤ total f views
  two_at_most_total f [] port other v w u e d apart = absurd (some-ne-none v (sym e))
  two_at_most_total f (y ∷ ys) zero zero v w u e d apart = absurd (apart refl)
  two_at_most_total f (y ∷ ys) zero (suc other) v w u e d apart = let same = ap f (some-injective y v e) in let rest = at_most_total f ys other w d in omega arith
  two_at_most_total f (y ∷ ys) (suc port) zero v w u e d apart = let same = ap f (some-injective y w d) in let rest = at_most_total f ys port v e in omega arith
  two_at_most_total f (y ∷ ys) (suc port) (suc other) v w u e d apart = let rest = two_at_most_total f ys port other v w u e d (λ same. apart (ap suc same)) in omega arith

  total_zero : (f : V → ℕ) (views : List V) → ((port : ℕ) (v : V) → get_elem? views port ≡ some v → f v ≡ 0) → total f views ≡ 0
  total_zero f [] none = refl
  total_zero f (u ∷ us) none = let first = none 0 u refl in let rest = total_zero f us (λ port. none (suc port)) in omega arith

  -- a pass that has all of p has all of f, where none has a part of f without one of p
  pub total_is_one : (p f : V → ℕ) (views : List V) (port : ℕ) (v : V) → get_elem? views port ≡ some v → total p views ≡ p v
      → ((other : ℕ) (u : V) → get_elem? views other ≡ some u → p u ≡ 0 → f u ≡ 0) → total f views ≡ f v
  total_is_one p f [] port v e all idle = absurd (some-ne-none v (sym e))
  total_is_one p f (u ∷ us) zero v e all idle =
      let same = ap p (some-injective u v e) in let same_f = ap f (some-injective u v e) in
      let others = total_zero f us (λ other w at. idle (suc other) w at (let b = at_most_total p us other w at in omega arith)) in omega arith
  total_is_one p f (u ∷ us) (suc port) v e all idle =
      let b = at_most_total p us port v e in
      let first = idle 0 u refl (omega arith) in
      let rest = total_is_one p f us port v e (omega arith) (λ other. idle (suc other)) in omega arith

-- a fact of each view after a change of one
abbrev pub Each : {V : Type 0} → (ℕ → V → Type 0) → List V → Type 0
Each {V} F views = (port : ℕ) (v : V) → get_elem? views port ≡ some v → F port v

module _ {V : Type 0} where
  pub each_set : (F G : ℕ → V → Type 0) (views : List V) (port : ℕ) (w : V) → Each F views → G port w → ((j : ℕ) (u : V) → j ≢ port → F j u → G j u) → Each G (set views port w)
  each_set F G views port w all mine others j u e = ⊎_elim (λ (x : (j ≡ port) × (w ≡ u)). subst (λ (y : ℕ × V). G y.0 y.1) (λ i. (sym x.0 i, x.1 i)) mine)
      (λ (x : (j ≢ port) × (get_elem? views j ≡ some u)). others j u x.0 (all j u x.1)) (at_set views port j w u e)
