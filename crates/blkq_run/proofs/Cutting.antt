-- An input that is cut where it is known to be too long says as much as the whole one.
use Rattle.std.proofs.Common.{◌≡◌, ℕ, ◌≤◌, List, Option, None, Some, IfSome, length, take, ap, sym, ◌∙◌, inl, inr, subst, arith, length-take}
use Rattle.std.proofs.lemmas.Bool.{cases_lt}
use Rattle.std.proofs.lemmas.List.{take_all}

module _ {B : Type 0} (f : List ℕ → B) (refusal : B) (most : ℕ) (too_long : (xs : List ℕ) → most ≤ length xs → f xs ≡ refusal) where
  -- where f is the same for each list of so many bytes or more, it needs no more of them
  same_when_cut : (xs : List ℕ) → f (take most xs) ≡ f xs
  same_when_cut xs = elim (cases_lt (length xs) most) [
    | inl short ↦ ap f (take_all most xs (omega arith))
    | inr long ↦ too_long (take most xs) (simp length-take (omega arith)) ∙ sym (too_long xs long)
  ]

  -- what holds of f at what was read holds of it at the whole input
  pub of_the_whole : (known : Option (List ℕ)) (read : List ℕ) (P : B → Type 0)
      → IfSome known (λ input. read ≡ take most input) → P (f read) → IfSome known (λ input. P (f input))
  of_the_whole None read P is holds = tt
  of_the_whole (Some input) read P is holds = subst P (ap f is ∙ same_when_cut input) holds
