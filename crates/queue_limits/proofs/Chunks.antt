-- Where the boundaries of chunks lie, and how far the reach goes.
use Rattle.std.proofs.Common.{◌≡◌, ℕ, ◌+◌, ◌-◌, ◌*◌, ◌/◌, ◌%◌, ◌<◌, ◌≤◌, ◌⊎◌, inl, inr, min, arith, subst}
use Rattle.std.proofs.lemmas.Bool.{cases_lt, cases_eq}
use Rattle.std.proofs.lemmas.Bool.Decides.{nat_tests}
use Rattle.std.proofs.lemmas.Nat.{div-add-mod', mod_below}
use Rattle.std.proofs.Math.Nat.{mul-le-mul_right}
use Rattle.queue_limits.specs.Bounds.{Bounds}
use Rattle.queue_limits.specs.Pieces.{StaysInChunk, IsWithinReach}
use Rattle.queue_limits.specs.Greedy.{reach}

-- what fits at a place fits when it is shorter
pub within_shorter : (bounds : Bounds) (start n m : ℕ) → n ≤ m → IsWithinReach bounds start m → IsWithinReach bounds start n
within_shorter bounds start n m le h = (omega (arith, h.0), λ k after. omega (arith, h.1 k after))

-- a multiple of c after q * c + r, for r below c, is at (q + 1) * c or later
next_multiple : (c q r k : ℕ) → q * c + r < k * c → (q + 1) * c ≤ k * c
next_multiple c q r k h =
    elim (cases_lt q k) [
      | inl lt ↦ let le : q + 1 ≤ k = omega arith in mul-le-mul_right c le
      | inr ge ↦ let le : k * c ≤ q * c = mul-le-mul_right c ge in absurd (omega arith)
    ]

-- up to the next boundary nothing lies inside
pub stays_to_boundary : (bounds : Bounds) (start n : ℕ) → 0 < bounds.chunk → n ≤ bounds.chunk - start % bounds.chunk → StaysInChunk bounds start n
stays_to_boundary bounds start n pos le = λ k after.
    let c : ℕ = bounds.chunk in
    let split : start / bounds.chunk * bounds.chunk + start % bounds.chunk ≡ start = div-add-mod' start bounds.chunk in
    let below : start % bounds.chunk < bounds.chunk = mod_below start bounds.chunk pos in
    let next : (start / bounds.chunk + 1) * bounds.chunk ≤ k * bounds.chunk = next_multiple bounds.chunk (start / bounds.chunk) (start % bounds.chunk) k (omega arith) in
    omega arith

-- past the next boundary it does
pub boundary_inside : (bounds : Bounds) (start n : ℕ) → 0 < bounds.chunk → bounds.chunk - start % bounds.chunk < n → StaysInChunk bounds start n → ⊥
boundary_inside bounds start n pos lt stays =
    let split : start / bounds.chunk * bounds.chunk + start % bounds.chunk ≡ start = div-add-mod' start bounds.chunk in
    let below : start % bounds.chunk < bounds.chunk = mod_below start bounds.chunk pos in
    let after : start < (start / bounds.chunk + 1) * bounds.chunk = omega arith in
    let inside : start + n ≤ (start / bounds.chunk + 1) * bounds.chunk = stays (start / bounds.chunk + 1) after in
    omega arith

-- with no chunk there is no boundary
pub stays_without : (bounds : Bounds) (start n : ℕ) → bounds.chunk ≡ 0 → StaysInChunk bounds start n
stays_without bounds start n none = λ k after.
    let after' : start < k * 0 = let P : ℕ → Type 0 = λ c. start < k * c in subst P none after in
    absurd (omega arith)

-- the reach is the longest that fits
reach_by : (bounds : Bounds) (start : ℕ) →
    ((bounds.chunk ≡ 0) × (reach bounds start ≡ bounds.max)) ⊎ ((0 < bounds.chunk) × (reach bounds start ≡ min bounds.max (bounds.chunk - start % bounds.chunk)))
reach_by bounds start =
    elim (cases_eq bounds.chunk 0) [
      | inl none ↦ inl (none, grind (arith, nat_tests))
      | inr some ↦ let pos : 0 < bounds.chunk = omega arith in inr (pos, grind (arith, nat_tests))
    ]

pub reach_positive : (bounds : Bounds) (start : ℕ) → 1 ≤ bounds.max → 0 < reach bounds start
reach_positive bounds start pos =
    elim (reach_by bounds start) [
      | inl h ↦ omega (arith, h.1)
      | inr h ↦ let below : start % bounds.chunk < bounds.chunk = mod_below start bounds.chunk h.0 in omega (arith, h.1)
    ]

pub reach_within : (bounds : Bounds) (start n : ℕ) → n ≤ reach bounds start → IsWithinReach bounds start n
reach_within bounds start n le =
    elim (reach_by bounds start) [
      | inl h ↦ (omega (arith, h.1), stays_without bounds start n h.0)
      | inr h ↦ (omega (arith, h.1), stays_to_boundary bounds start n h.0 (omega (arith, h.1)))
    ]

pub reach_most : (bounds : Bounds) (start n : ℕ) → IsWithinReach bounds start n → n ≤ reach bounds start
reach_most bounds start n within =
    elim (reach_by bounds start) [
      | inl h ↦ omega (arith, h.1, within.0)
      | inr h ↦
          elim (cases_lt (bounds.chunk - start % bounds.chunk) n) [
            | inl past ↦ absurd (boundary_inside bounds start n h.0 past within.1)
            | inr inside ↦ omega (arith, h.1, within.0)
          ]
    ]

pub past_reach : (bounds : Bounds) (start n : ℕ) → reach bounds start < n → ¬ (IsWithinReach bounds start n)
past_reach bounds start n past = λ within. let most : n ≤ reach bounds start = reach_most bounds start n within in absurd (omega arith)
