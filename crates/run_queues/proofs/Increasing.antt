-- Lists of numbers that increase, and how often a number stands in them.
use Rattle.std.proofs.Common.{◌≡◌, ◌≢◌, ℕ, ◌+◌, ◌<◌, ◌≤◌, Bool, true, false, nat_lt, List, [], ◌∷◌, ◌++◌, refl, arith, lt_trans, if◌then◌else◌}
use Rattle.run_queues.specs.Numbers.{AllAbove, IsIncreasing, times, times_in_all, AllIncrease, one_at, one_below, put_in, merged}

pub one_at_itself : (x : ℕ) → one_at x x ≡ 1
one_at_itself x = grind (arith)

pub one_at_other : (x y : ℕ) → x ≢ y → one_at x y ≡ 0
one_at_other x y apart = grind (arith)

pub one_below_more : (bound x : ℕ) → one_below (bound + 1) x ≡ one_below bound x + one_at x bound
one_below_more bound x = grind (arith)

pub below_of_one : (bound x : ℕ) → 0 < one_below bound x → x < bound
below_of_one bound x h = grind (arith)

pub one_below_at_most : (bound x : ℕ) → one_below bound x ≤ 1
one_below_at_most bound x = grind (arith)

pub one_below_none : (bound x : ℕ) → bound ≤ x → one_below bound x ≡ 0
one_below_none bound x h = grind (arith)

pub times_append : (x : ℕ) (ys zs : List ℕ) → times x (ys ++ zs) ≡ times x ys + times x zs
times_append x [] zs = omega arith
times_append x (y ∷ ys) zs = let rest = times_append x ys zs in omega arith

times_by_order : (x y z : ℕ) (zs rest : List ℕ) → times x rest ≡ one_at x y + times x zs → (b : Bool) → times x (if b then y ∷ z ∷ zs else z ∷ rest) ≡ one_at x y + (one_at x z + times x zs)
times_by_order x y z zs rest h true = refl
times_by_order x y z zs rest h false = omega arith

pub times_put_in : (x y : ℕ) (zs : List ℕ) → times x (put_in y zs) ≡ one_at x y + times x zs
times_put_in x y [] = refl
times_put_in x y (z ∷ zs) = times_by_order x y z zs (put_in y zs) (times_put_in x y zs) (nat_lt y z)

pub times_merged : (x : ℕ) (ys zs : List ℕ) → times x (merged ys zs) ≡ times x ys + times x zs
times_merged x [] zs = omega arith
times_merged x (y ∷ ys) zs = let rest = times_merged x ys zs in let first = times_put_in x y (merged ys zs) in omega arith

all_above_less : (x y : ℕ) (zs : List ℕ) → x < y → AllAbove y zs → AllAbove x zs
all_above_less x y [] less above = tt
all_above_less x y (z ∷ zs) less above = (lt_trans less above.0, all_above_less x y zs less above.1)

all_above_snoc : (x y : ℕ) (zs : List ℕ) → AllAbove x zs → x < y → AllAbove x (zs ++ y ∷ [])
all_above_snoc x y [] above less = (less, tt)
all_above_snoc x y (z ∷ zs) above less = (above.0, all_above_snoc x y zs above.1 less)

all_above_by_order : (x y z : ℕ) (zs rest : List ℕ) → x < y → AllAbove x (z ∷ zs) → AllAbove x rest → (b : Bool) → AllAbove x (if b then y ∷ z ∷ zs else z ∷ rest)
all_above_by_order x y z zs rest less above h true = (less, above)
all_above_by_order x y z zs rest less above h false = (above.0, h)

all_above_put_in : (x y : ℕ) (zs : List ℕ) → x < y → AllAbove x zs → AllAbove x (put_in y zs)
all_above_put_in x y [] less above = (less, tt)
all_above_put_in x y (z ∷ zs) less above = all_above_by_order x y z zs (put_in y zs) less above (all_above_put_in x y zs less above.1) (nat_lt y z)

-- a number larger than all others at the end
pub increasing_snoc : (xs : List ℕ) (y : ℕ) → IsIncreasing xs → ((x : ℕ) → 0 < times x xs → x < y) → IsIncreasing (xs ++ y ∷ [])
increasing_snoc [] y increasing below = (tt, tt)
increasing_snoc (x ∷ xs) y increasing below =
    let here = one_at_itself x in (
      all_above_snoc x y xs increasing.0 (below x (omega arith)),
      increasing_snoc xs y increasing.1 (λ z h. below z (omega arith)),
    )

lt_of_nat_lt : (x y : ℕ) → nat_lt x y ≡ true → x < y
lt_of_nat_lt x y h = grind (arith)

le_of_nat_lt : (x y : ℕ) → nat_lt x y ≡ false → y ≤ x
le_of_nat_lt x y h = grind (arith)

less_unless_same : (x y : ℕ) → y ≤ x → one_at x y ≡ 0 → y < x
less_unless_same x y h apart = grind (arith)

increasing_by_order : (x y : ℕ) (ys : List ℕ) → AllAbove y ys → IsIncreasing ys → IsIncreasing (put_in x ys) → one_at x y ≡ 0 → (b : Bool) → nat_lt x y ≡ b
    → IsIncreasing (if b then x ∷ y ∷ ys else y ∷ put_in x ys)
increasing_by_order x y ys above increasing rest apart true e = let less = lt_of_nat_lt x y e in ((less, all_above_less x y ys less above), (above, increasing))
increasing_by_order x y ys above increasing rest apart false e = (all_above_put_in y x ys (less_unless_same x y (le_of_nat_lt x y e) apart) above, rest)

-- a number that isn't there yet, at its place
pub increasing_put_in : (x : ℕ) (ys : List ℕ) → IsIncreasing ys → times x ys ≡ 0 → IsIncreasing (put_in x ys)
increasing_put_in x [] increasing apart = (tt, tt)
increasing_put_in x (y ∷ ys) increasing apart = increasing_by_order x y ys increasing.0 increasing.1 (increasing_put_in x ys increasing.1 (omega arith)) (omega arith) (nat_lt x y) refl

-- two lists with no number in common
pub increasing_merged : (xs ys : List ℕ) → IsIncreasing xs → IsIncreasing ys → ((x : ℕ) → times x xs + times x ys ≤ 1) → IsIncreasing (merged xs ys)
increasing_merged [] ys first second apart = second
increasing_merged (x ∷ xs) ys first second apart =
    let here = one_at_itself x in let bound = apart x in let sum = times_merged x xs ys in
    increasing_put_in x (merged xs ys) (increasing_merged xs ys first.1 second (λ z. let b = apart z in omega arith)) (omega arith)

pub times_in_all_snoc : (x : ℕ) (lists : List (List ℕ)) (numbers : List ℕ) → times_in_all x (lists ++ numbers ∷ []) ≡ times_in_all x lists + times x numbers
times_in_all_snoc x [] numbers = omega arith
times_in_all_snoc x (first ∷ lists) numbers = let rest = times_in_all_snoc x lists numbers in omega arith

pub all_increase_snoc : (lists : List (List ℕ)) (numbers : List ℕ) → AllIncrease lists → IsIncreasing numbers → AllIncrease (lists ++ numbers ∷ [])
all_increase_snoc [] numbers all one = (one, tt)
all_increase_snoc (first ∷ lists) numbers all one = (all.0, all_increase_snoc lists numbers all.1 one)
