use Rattle.std.proofs.Common.{◌≡◌, ◌∙◌, subst, ℕ, ◌<◌, ◌≤◌, arith, inl, inr, List, length, get_or, Result, Ok, Err, AllPairs}
use Rattle.std.proofs.lemmas.Bool.{cases_lt}
use Rattle.std.proofs.lemmas.List.{get_or_default}
use Rattle.std.proofs.lemmas.List.Sorted.{searched}
use Rattle.std.specs.List.Sorted.{IsBinarySearchResult}
use Rattle.std.specs.Ordering.{nat_cmp}
use Rattle.std.specs.Prelude.{MatchBool, MatchResult, is_ok}
use Rattle.script_meaning.specs.Script.{Meant}
use Rattle.script_overlap.specs.Ordered.{AreOrdered, IsOrdered, JoinsItsSpan}
use Rattle.script_overlap.proofs.checked.Checked.is_ordered.Goals as goal

-- an ascending list doesn't fall
rises : (xs : List ℕ) → AllPairs (λ earlier later. earlier < later) xs → (i j : ℕ) → i ≤ j → j < length xs → get_or xs i 0 ≤ get_or xs j 0
rises xs ascending i j low high =
    elim (cases_lt i j) [
      | inl less ↦ omega (arith, ascending i j 0 less high)
      | inr more ↦ let same : i ≡ j = omega arith in rw same (omega arith)
    ]

told : (script : Meant) (ordered : List ℕ) (position : ℕ) (r : Result ℕ ℕ) → AreOrdered script ordered
    → MatchResult r (λ i. (i < length ordered) × (get_or ordered i 0 ≡ position))
    (λ i. (i ≤ length ordered) × ((k : ℕ) → k < i → get_or ordered k 0 < position) × ((k : ℕ) → i ≤ k → k < length ordered → position < get_or ordered k 0))
    → MatchBool (is_ok r) (IsOrdered script position) (JoinsItsSpan script position)
told script ordered position (Ok i) are found = record { positions = ordered; are_ordered = are; is_one = (i, found.0, get_or_default ordered i position 0 found.0 ∙ found.1) }
told script ordered position (Err i) are found = record {
  positions = ordered;
  are_ordered = are;
  is_none = λ there.
      elim (cases_lt there.0 i) [
        | inl less ↦ absurd (omega (arith, found.1 there.0 less, there.2, get_or_default ordered there.0 position 0 there.1))
        | inr more ↦ absurd (omega (arith, found.2 there.0 more there.1, there.2, get_or_default ordered there.0 position 0 there.1))
      ];
}

pub returns : goal.returns
returns c =
    let said : IsBinarySearchResult (λ y. nat_cmp y c.args.position) c.self.inside.ordered.items c.binary_search.result =
    subst (λ xs. IsBinarySearchResult (λ y. nat_cmp y c.args.position) xs c.binary_search.result) c.deref.ensures.value c.binary_search.ensures.position in
    let found = searched c.self.inside.ordered.items c.args.position c.binary_search.result said (rises c.self.inside.ordered.items c.self.invariant.order.ascending) in
    let tells = told c.self.inside.script.now c.self.inside.ordered.items c.args.position c.binary_search.result c.self.invariant.order found in
    rw (c.is_ok.ensures.value, ← c.self.view_is) tells
