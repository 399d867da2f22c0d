-- The numbers of which one bit is set, and what a mask below one leaves.
use Rattle.std.proofs.Common.{◌≡◌, ℕ, ◌+◌, ◌-◌, ◌*◌, ◌/◌, ◌%◌, ◌^◌, ◌<◌, ◌≤◌, inl, inr, arith, suc, zero, refl, ap, subst, sym, ◌∙◌, true}
use Rattle.std.specs.Prelude.{bit_and, count_ones}
use Rattle.std.proofs.lemmas.Bool.{cases_lt, cases_eq}
use Rattle.std.proofs.lemmas.Bool.Decides.{nat_tests}
use Rattle.std.proofs.lemmas.Nat.{zero_from_ones, ones_le_self, and_mask, pow_pos, pow_below}
use Rattle.std.proofs.Math.Nat.{pow-suc}
use Rattle.std.proofs.Math.Pow.{pow_mono}
use lib.Count.{ones_step, ones}
use Rattle.queue_limits.specs.Bounds.{is_physical_size}

power_up_to : (turns n : ℕ) → n ≤ turns → count_ones n ≡ 1 → (k : ℕ) × (n ≡ 2 ^ k)
power_up_to zero n le one = let few : count_ones n ≤ n = ones_le_self n in absurd (omega arith)
power_up_to (suc turns) n le one =
    let step : count_ones n ≡ n % 2 + count_ones (n / 2) = ones_step n in
    elim (cases_eq (n % 2) 0) [
      | inl even ↦
          let half : (k : ℕ) × (n / 2 ≡ 2 ^ k) = power_up_to turns (n / 2) (omega arith) (omega arith) in
          (suc half.0, omega (arith, half.1, pow-suc 2 half.0))
      | inr odd ↦ let none : n / 2 ≡ 0 = zero_from_ones (n / 2) (omega arith) in (0, omega arith)
    ]

-- one bit is set in the powers of two alone
pub power_of_ones : (n : ℕ) → count_ones n ≡ 1 → (k : ℕ) × (n ≡ 2 ^ k)
power_of_ones n = power_up_to n n (omega arith)

one_bit : count_ones 1 ≡ 1
unfolding ones
one_bit = refl

pub ones_of_power : (k : ℕ) → count_ones (2 ^ k) ≡ 1
ones_of_power zero = one_bit
ones_of_power (suc k) =
    let twice : 2 ^ suc k ≡ 2 ^ k * 2 = pow-suc 2 k in
    let half : 2 ^ suc k / 2 ≡ 2 ^ k = omega arith in
    omega (arith, ones_step (2 ^ suc k), ap count_ones half, ones_of_power k)

-- what the test of a physical block's size says
within_limit : (n : ℕ) → is_physical_size n ≡ true → (n ≤ 32768) × (count_ones n ≡ 1)
within_limit n test = (grind (arith, nat_tests), grind (arith, nat_tests))

passes : (n : ℕ) → n ≤ 32768 → count_ones n ≡ 1 → is_physical_size n ≡ true
passes n le one = grind (arith, nat_tests)

pub power_of_size : (n : ℕ) → is_physical_size n ≡ true → (k : ℕ) × (k ≤ 15) × (n ≡ 2 ^ k)
power_of_size n test =
    let parts : (n ≤ 32768) × (count_ones n ≡ 1) = within_limit n test in
    let power : (k : ℕ) × (n ≡ 2 ^ k) = power_of_ones n parts.1 in
    elim (cases_lt 15 power.0) [
      | inl high ↦ let more : 32768 < 2 ^ power.0 = pow_below 15 power.0 high in absurd (omega (arith, power.1))
      | inr low ↦ (power.0, low, power.1)
    ]

pub size_of_power : (n k : ℕ) → k ≤ 15 → n ≡ 2 ^ k → is_physical_size n ≡ true
size_of_power n k le e = let most : 2 ^ k ≤ 32768 = pow_mono le in passes n (omega arith) (ap count_ones e ∙ ones_of_power k)

pub one_is_a_size : is_physical_size 1 ≡ true
one_is_a_size = size_of_power 1 0 (omega arith) refl

pub size_positive : (n : ℕ) → is_physical_size n ≡ true → 0 < n
size_positive n test = let power : (k : ℕ) × (k ≤ 15) × (n ≡ 2 ^ k) = power_of_size n test in omega (arith, pow_pos power.0, power.2)

-- the mask below a physical block's size leaves the remainder by it
pub masked : (n size : ℕ) → is_physical_size size ≡ true → bit_and n (size - 1) ≡ n % size
masked n size test =
    let power : (k : ℕ) × (k ≤ 15) × (size ≡ 2 ^ k) = power_of_size size test in
    let P : ℕ → Type 0 = λ p. bit_and n (p - 1) ≡ n % p in
    subst P (sym power.2) (and_mask n power.0)
