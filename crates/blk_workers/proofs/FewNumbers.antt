-- How many numbers an increasing list can hold.
use Rattle.std.proofs.Common.{suc, ℕ, ◌+◌, ◌<◌, ◌≤◌, arith, All, List, [], ◌∷◌, length}
use Rattle.run_queues.specs.Numbers.{AllAbove, IsIncreasing}

-- what holds of all of a list holds of its first, and of all others
first_below : (bound x : ℕ) (xs : List ℕ) → All (λ n. n < bound) (x ∷ xs) → x < bound
first_below bound x xs below = below 0 x (omega arith)

rest_below : (bound x : ℕ) (xs : List ℕ) → All (λ n. n < bound) (x ∷ xs) → All (λ n. n < bound) xs
rest_below bound x xs below = λ k d less. below (suc k) d (omega (arith, less))

few_above : (low bound : ℕ) (xs : List ℕ) → low < bound → AllAbove low xs → IsIncreasing xs → All (λ n. n < bound) xs → length xs + low < bound
few_above low bound [] less above increasing below = omega (arith, less)
few_above low bound (x ∷ xs) less above increasing below =
    let rest = few_above x bound xs (first_below bound x xs below) increasing.0 increasing.1 (rest_below bound x xs below) in
    omega (arith, rest, above.0)

-- an increasing list of numbers below a bound has no more of them than the bound says
pub few_increasing : (bound : ℕ) (xs : List ℕ) → IsIncreasing xs → All (λ n. n < bound) xs → length xs ≤ bound
few_increasing bound [] increasing below = omega arith
few_increasing bound (x ∷ xs) increasing below =
    let rest = few_above x bound xs (first_below bound x xs below) increasing.0 increasing.1 (rest_below bound x xs below) in
    omega (arith, rest)
