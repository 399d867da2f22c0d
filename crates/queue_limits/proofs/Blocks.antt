-- Where the last physical block within the reach ends, and that each place has one first piece.
use Rattle.std.proofs.Common.{◌≡◌, ℕ, ◌+◌, ◌-◌, ◌*◌, ◌/◌, ◌%◌, ◌<◌, ◌≤◌, ◌⊎◌, inl, inr, min, arith, refl, ap, subst, sym, ◌∙◌}
use Rattle.std.proofs.lemmas.Bool.{cases_lt, cases_eq}
use Rattle.std.proofs.lemmas.Bool.Decides.{nat_tests}
use Rattle.std.proofs.lemmas.Nat.{div-add-mod', le-div}
use Rattle.std.proofs.Math.Nat.{mul-le-mul_right}
use Rattle.std.proofs.Math.Nat.{mod-one}
use Rattle.std.specs.Prelude.{bit_and, true}
use Rattle.queue_limits.specs.Bounds.{Bounds, is_physical_size}
use Rattle.queue_limits.specs.Pieces.{IsWithinReach, EndsWithBlock, IsGreatest, IsFirstPiece}
use Rattle.queue_limits.specs.Greedy.{reach, first_piece}
use Rattle.queue_limits.proofs.PowersOfTwo.{masked}
use Rattle.queue_limits.proofs.Chunks.{reach_within, reach_most, reach_positive, past_reach}

-- a multiple of p past `start` lies in the n sectors from there on: then so does the last one, which isn't before it
multiple_within : (start n p m k : ℕ) → 0 < p → 0 < m → m ≤ n → start + m ≡ k * p → ((start + n) % p < n) × (m ≤ n - (start + n) % p)
multiple_within start n p m k pos some le e =
    let split : (start + n) / p * p + (start + n) % p ≡ start + n = div-add-mod' (start + n) p in
    let most : k ≤ (start + n) / p = le-div k (start + n) p pos (omega arith) in
    let past : k * p ≤ (start + n) / p * p = mul-le-mul_right p most in
    (omega arith, omega arith)

-- the first piece by cases
first_whole : (bounds : Bounds) (start left : ℕ) → left ≤ reach bounds start → first_piece bounds start left ≡ left
first_whole bounds start left le = grind (arith, nat_tests)

first_with_block : (bounds : Bounds) (start left : ℕ) → reach bounds start < left → (start + reach bounds start) % bounds.physical < reach bounds start
    → first_piece bounds start left ≡ reach bounds start - (start + reach bounds start) % bounds.physical
first_with_block bounds start left lt some = grind (arith, nat_tests)

first_in_block : (bounds : Bounds) (start left : ℕ) → reach bounds start < left → reach bounds start ≤ (start + reach bounds start) % bounds.physical
    → first_piece bounds start left ≡ reach bounds start
first_in_block bounds start left lt none = grind (arith, nat_tests)

-- the last block that ends within the reach
last_block : (bounds : Bounds) (start : ℕ) → (start + reach bounds start) % bounds.physical < reach bounds start
    → EndsWithBlock bounds start (reach bounds start - (start + reach bounds start) % bounds.physical)
last_block bounds start some =
    let split : (start + reach bounds start) / bounds.physical * bounds.physical + (start + reach bounds start) % bounds.physical ≡ start + reach bounds start = div-add-mod' (start + reach bounds start) bounds.physical in
    (omega arith, reach_within bounds start (reach bounds start - (start + reach bounds start) % bounds.physical) (omega arith), ((start + reach bounds start) / bounds.physical, omega arith))

-- a block of no sectors has no end above `start`
physical_of_block : (bounds : Bounds) (start m : ℕ) → EndsWithBlock bounds start m → 0 < bounds.physical
physical_of_block bounds start m h =
    elim (cases_eq bounds.physical 0) [
      | inl none ↦ let P : ℕ → Type 0 = λ p. start + m ≡ h.2.0 * p in let e : start + m ≡ h.2.0 * 0 = subst P none h.2.1 in absurd (omega (arith, e, h.0))
      | inr some ↦ omega arith
    ]

no_later_block : (bounds : Bounds) (start m : ℕ) → EndsWithBlock bounds start m
    → ((start + reach bounds start) % bounds.physical < reach bounds start) × (m ≤ reach bounds start - (start + reach bounds start) % bounds.physical)
no_later_block bounds start m h =
    multiple_within start (reach bounds start) bounds.physical m h.2.0 (physical_of_block bounds start m h) h.0 (reach_most bounds start m h.1) h.2.1

-- whether a block ends within the reach
some_block : (bounds : Bounds) (start : ℕ) → ((m : ℕ) × EndsWithBlock bounds start m) ⊎ ((m : ℕ) → ¬ (EndsWithBlock bounds start m))
some_block bounds start =
    elim (cases_lt ((start + reach bounds start) % bounds.physical) (reach bounds start)) [
      | inl some ↦ inl (reach bounds start - (start + reach bounds start) % bounds.physical, last_block bounds start some)
      | inr none ↦ inr (λ m h. let lt : (start + reach bounds start) % bounds.physical < reach bounds start = (no_later_block bounds start m h).0 in absurd (omega arith))
    ]

pub first_is_first : (bounds : Bounds) (start left : ℕ) → IsFirstPiece bounds start left (first_piece bounds start left)
first_is_first bounds start left =
    elim (cases_lt (reach bounds start) left) [
      | inl past ↦
          elim (cases_lt ((start + reach bounds start) % bounds.physical) (reach bounds start)) [
            | inl some ↦
                let P : ℕ → Type 0 = λ n. IsFirstPiece bounds start left n in
                subst P (sym (first_with_block bounds start left past some)) (record {
                  whole = λ within. absurd (past_reach bounds start left past within);
                  with_block = λ not_whole m h. (last_block bounds start some, λ other g. (no_later_block bounds start other g).1);
                  in_block = λ not_whole none. absurd (none (reach bounds start - (start + reach bounds start) % bounds.physical) (last_block bounds start some));
                })
            | inr none ↦
                let P : ℕ → Type 0 = λ n. IsFirstPiece bounds start left n in
                subst P (sym (first_in_block bounds start left past none)) (record {
                  whole = λ within. absurd (past_reach bounds start left past within);
                  with_block = λ not_whole m h. let lt : (start + reach bounds start) % bounds.physical < reach bounds start = (no_later_block bounds start m h).0 in absurd (omega arith);
                  in_block = λ not_whole _. (reach_within bounds start (reach bounds start) (omega arith), λ other g. reach_most bounds start other g);
                })
          ]
      | inr inside ↦
          let P : ℕ → Type 0 = λ n. IsFirstPiece bounds start left n in
          subst P (sym (first_whole bounds start left inside)) (record {
            whole = λ within. refl;
            with_block = λ not_whole m h. absurd (not_whole (reach_within bounds start left inside));
            in_block = λ not_whole _. absurd (not_whole (reach_within bounds start left inside));
          })
    ]

-- a greatest length is one
pub one_greatest : (P : ℕ → Type 0) (a b : ℕ) → IsGreatest P a → IsGreatest P b → a ≡ b
one_greatest P a b h g = omega (arith, h.1 b g.0, g.1 a h.0)

pub one_first : (bounds : Bounds) (start left a b : ℕ) → IsFirstPiece bounds start left a → IsFirstPiece bounds start left b → a ≡ b
one_first bounds start left a b x y =
    elim (cases_lt (reach bounds start) left) [
      | inl past ↦
          elim (some_block bounds start) [
            | inl some ↦ one_greatest (EndsWithBlock bounds start) a b (x.with_block (past_reach bounds start left past) some.0 some.1) (y.with_block (past_reach bounds start left past) some.0 some.1)
            | inr none ↦ one_greatest (IsWithinReach bounds start) a b (x.in_block (past_reach bounds start left past) none) (y.in_block (past_reach bounds start left past) none)
          ]
      | inr inside ↦ x.whole (reach_within bounds start left inside) ∙ sym (y.whole (reach_within bounds start left inside))
    ]

-- a piece has some sectors, no more than are left, and no more than the reach
pub first_bounds : (bounds : Bounds) (start left : ℕ) → 1 ≤ bounds.max → 0 < left
    → (0 < first_piece bounds start left) × (first_piece bounds start left ≤ left) × (first_piece bounds start left ≤ bounds.max)
first_bounds bounds start left pos some =
    let here : 0 < reach bounds start = reach_positive bounds start pos in
    let most : reach bounds start ≤ bounds.max = (reach_within bounds start (reach bounds start) (omega arith)).0 in
    elim (cases_lt (reach bounds start) left) [
      | inl past ↦
          elim (cases_lt ((start + reach bounds start) % bounds.physical) (reach bounds start)) [
            | inl block ↦ let e : first_piece bounds start left ≡ reach bounds start - (start + reach bounds start) % bounds.physical = first_with_block bounds start left past block in (omega arith, omega arith, omega arith)
            | inr none ↦ let e : first_piece bounds start left ≡ reach bounds start = first_in_block bounds start left past none in (omega arith, omega arith, omega arith)
          ]
      | inr inside ↦ let e : first_piece bounds start left ≡ left = first_whole bounds start left inside in (omega arith, omega arith, omega arith)
    ]

-- the same with the remainder by a mask
pub first_by_mask : (bounds : Bounds) (start left past : ℕ) → is_physical_size bounds.physical ≡ true → reach bounds start < left → past ≡ bit_and (start + reach bounds start) (bounds.physical - 1)
    → (past < reach bounds start → reach bounds start - past ≡ first_piece bounds start left) × (reach bounds start ≤ past → reach bounds start ≡ first_piece bounds start left)
first_by_mask bounds start left past size beyond e =
    let mask : bit_and (start + reach bounds start) (bounds.physical - 1) ≡ (start + reach bounds start) % bounds.physical = masked (start + reach bounds start) bounds.physical size in (
      λ some. let first : first_piece bounds start left ≡ reach bounds start - (start + reach bounds start) % bounds.physical = first_with_block bounds start left beyond (omega arith) in omega arith,
      λ none. let first : first_piece bounds start left ≡ reach bounds start = first_in_block bounds start left beyond (omega arith) in omega arith,
    )

pub first_within : (bounds : Bounds) (start left : ℕ) → left ≤ reach bounds start → first_piece bounds start left ≡ left
first_within = first_whole

-- if a block is one sector, the first piece is what is left as far as the reach goes
pub first_of_one : (bounds : Bounds) (start left : ℕ) → bounds.physical ≡ 1 → first_piece bounds start left ≡ min left (reach bounds start)
first_of_one bounds start left one =
    let none : (start + reach bounds start) % bounds.physical ≡ 0 = ap (λ p. (start + reach bounds start) % p) one ∙ mod-one (start + reach bounds start) in
    elim (cases_lt (reach bounds start) left) [
      | inl past ↦
          elim (cases_lt ((start + reach bounds start) % bounds.physical) (reach bounds start)) [
            | inl block ↦ let e : first_piece bounds start left ≡ reach bounds start - (start + reach bounds start) % bounds.physical = first_with_block bounds start left past block in omega arith
            | inr some ↦ let e : first_piece bounds start left ≡ reach bounds start = first_in_block bounds start left past some in omega arith
          ]
      | inr inside ↦ let e : first_piece bounds start left ≡ left = first_whole bounds start left inside in omega arith
    ]
