-- Lists of one word and of two, and what they ask for.
use Rattle.std.proofs.Common.{◌≡◌, ◌∙◌, ◌<◌, ◌≤◌, ℕ, List, [], ◌∷◌, Option, None, Some, Ok, length, map, get_or, arith, ap, sym}
use Rattle.std.specs.Prelude.{◌↔◌, codes}
use Rattle.line_text.specs.Numbers.{number_in}
use Rattle.races_run.specs.Requests.{Bounds}

module _ {X Y : Type 0} (f : X → Y) where
  pub map_one : (xs : List X) (a : X) → 1 ≤ length xs → length xs < 2 → a ≡ get_or xs 0 a → map f xs ≡ f a ∷ []
  map_one [] a some few first = absurd (omega arith)
  map_one (x ∷ []) a some few first = ap (λ y. f y ∷ []) (sym first)
  map_one (x ∷ y ∷ xs) a some few first = absurd (omega arith)

  pub map_two : (xs : List X) (a b : X) → 2 ≤ length xs → length xs < 3 → a ≡ get_or xs 0 a → b ≡ get_or xs 1 b → map f xs ≡ f a ∷ f b ∷ []
  map_two (x ∷ y ∷ []) a b some few first second = simp (first, second)
  map_two (x ∷ y ∷ z ∷ xs) a b some few first second = absurd (omega arith)
  map_two _ a b some few first second = absurd (omega arith)

pub asks_for : (word number : List ℕ) (n : ℕ) (most : Option ℕ) → word ≡ codes "--states" → number_in 1 18446744073709551615 number ≡ Ok n
    → (Some (Some n) ≡ Some most) ↔ Bounds (word ∷ number ∷ []) most
asks_for word number n None is spelled = (λ same. cc, λ asked. absurd asked)
asks_for word number n (Some most) is spelled = (
  λ same. let it : n ≡ most = cc in (is, spelled ∙ ap Ok it),
  λ asked. let both = sym spelled ∙ asked.1 in let it : n ≡ most = cc in ap (λ n. Some (Some n)) it,
)
