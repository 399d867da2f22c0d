-- Where a physical block is one sector, the pieces are the longest ones.
use Rattle.std.proofs.Common.{◌≡◌, ℕ, ◌+◌, ◌<◌, ◌≤◌, inl, inr, min, arith, List, [], ◌∷◌, sum, subst, sym, ◌∙◌}
use Rattle.std.specs.List.{All}
use Rattle.std.specs.Prelude.{◌↔◌}
use Rattle.std.proofs.lemmas.Bool.{cases_lt}
use Rattle.std.proofs.lemmas.List.Elements.{All-head, All-tail}
use Rattle.queue_limits.specs.Bounds.{Bounds}
use Rattle.queue_limits.specs.Pieces.{IsWithinReach, IsFirstPiece, EachPiece, IsSplit}
use Rattle.queue_limits.specs.LongestPieces.{EachLength, EachButLast, IsLongestSplit}
use Rattle.queue_limits.specs.Greedy.{reach, first_piece}
use Rattle.queue_limits.proofs.Chunks.{reach_within, reach_most, past_reach}
use Rattle.queue_limits.proofs.Blocks.{first_is_first, one_first, first_of_one}
use Rattle.queue_limits.proofs.Splits.{sum-cons}

abbrev IsLongest : Bounds → ℕ → ℕ → Type 0
IsLongest bounds at n = ¬ (IsWithinReach bounds at (n + 1))

-- a first piece has what is left as far as the reach goes, and nothing else does
first_least : (bounds : Bounds) (start left n : ℕ) → bounds.physical ≡ 1 → IsFirstPiece bounds start left n → n ≡ min left (reach bounds start)
first_least bounds start left n one first = one_first bounds start left n (first_piece bounds start left) first (first_is_first bounds start left) ∙ first_of_one bounds start left one

least_first : (bounds : Bounds) (start left n : ℕ) → bounds.physical ≡ 1 → n ≡ min left (reach bounds start) → IsFirstPiece bounds start left n
least_first bounds start left n one e =
    let P : ℕ → Type 0 = λ x. IsFirstPiece bounds start left x in
    subst P (first_of_one bounds start left one ∙ sym e) (first_is_first bounds start left)

each_within : (bounds : Bounds) (start : ℕ) (ns : List ℕ) → bounds.physical ≡ 1 → EachPiece (IsFirstPiece bounds) start ns → EachLength (IsWithinReach bounds) start ns
each_within bounds start [] one cut = tt
each_within bounds start (n ∷ ns) one cut =
    let least : n ≡ min (n + sum ns) (reach bounds start) = first_least bounds start (n + sum ns) n one cut.0 in
    (reach_within bounds start n (omega arith), each_within bounds (start + n) ns one cut.1)

each_longest : (bounds : Bounds) (start : ℕ) (ns : List ℕ) → bounds.physical ≡ 1 → All (λ n. 0 < n) ns → EachPiece (IsFirstPiece bounds) start ns → EachButLast (IsLongest bounds) start ns
each_longest bounds start [] one some cut = tt
each_longest bounds start (n ∷ []) one some cut = tt
each_longest bounds start (n ∷ m ∷ ms) one some cut =
    let least : n ≡ min (n + sum (m ∷ ms)) (reach bounds start) = first_least bounds start (n + sum (m ∷ ms)) n one cut.0 in
    let next : 0 < m = All-head (λ n. 0 < n) m ms (All-tail (λ n. 0 < n) n (m ∷ ms) some) in
    let total : sum (m ∷ ms) ≡ m + sum ms = sum-cons m ms in
    (past_reach bounds start (n + 1) (omega arith), each_longest bounds (start + n) (m ∷ ms) one (All-tail (λ n. 0 < n) n (m ∷ ms) some) cut.1)

each_first : (bounds : Bounds) (start : ℕ) (ns : List ℕ) → bounds.physical ≡ 1 → EachLength (IsWithinReach bounds) start ns → EachButLast (IsLongest bounds) start ns → EachPiece (IsFirstPiece bounds) start ns
each_first bounds start [] one within longest = tt
each_first bounds start (n ∷ []) one within longest =
    let most : n ≤ reach bounds start = reach_most bounds start n within.0 in
    (least_first bounds start (n + sum []) n one (omega arith), tt)
each_first bounds start (n ∷ m ∷ ms) one within longest =
    let most : n ≤ reach bounds start = reach_most bounds start n within.0 in
    elim (cases_lt n (reach bounds start)) [
      | inl more ↦ absurd (longest.0 (reach_within bounds start (n + 1) (omega arith)))
      | inr all ↦ (least_first bounds start (n + sum (m ∷ ms)) n one (omega arith), each_first bounds (start + n) (m ∷ ms) one within.1 longest.1)
    ]

pub longest_of_split : (bounds : Bounds) (start count : ℕ) (ns : List ℕ) → bounds.physical ≡ 1 → IsSplit bounds start count ns ↔ IsLongestSplit bounds start count ns
longest_of_split bounds start count ns one = (
  λ split. record { joined = split.joined; non_empty = split.non_empty; allowed = each_within bounds start ns one split.cut; longest = each_longest bounds start ns one split.non_empty split.cut },
  λ split. record { joined = split.joined; non_empty = split.non_empty; cut = each_first bounds start ns one split.allowed split.longest },
)
