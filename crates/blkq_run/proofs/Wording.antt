-- Lists of one and of four words.
use Rattle.std.proofs.Common.{◌≡◌, ◌<◌, ◌≤◌, List, [], ◌∷◌, length, map, get_or, arith, sym, ap}

module _ {X Y : Type 0} (f : X → Y) where
  pub map_one : (xs : List X) (a : X) → 1 ≤ length xs → length xs < 2 → a ≡ get_or xs 0 a → map f xs ≡ f a ∷ []
  map_one [] a some few first = absurd (omega arith)
  map_one (x ∷ []) a some few first = ap (λ y. f y ∷ []) (sym first)
  map_one (x ∷ y ∷ xs) a some few first = absurd (omega arith)

  pub map_four : (xs : List X) (a b c d : X) → 4 ≤ length xs → length xs < 5
      → a ≡ get_or xs 0 a → b ≡ get_or xs 1 b → c ≡ get_or xs 2 c → d ≡ get_or xs 3 d → map f xs ≡ f a ∷ f b ∷ f c ∷ f d ∷ []
  map_four (w ∷ x ∷ y ∷ z ∷ []) a b c d some few first second third fourth = simp (first, second, third, fourth)
  map_four (w ∷ x ∷ y ∷ z ∷ v ∷ xs) a b c d some few first second third fourth = absurd (omega arith)
  map_four _ a b c d some few first second third fourth = absurd (omega arith)
