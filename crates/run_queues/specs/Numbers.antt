-- Lists of the numbers of requests.
use Rattle.std.specs.Prelude.{◌≡◌, ℕ, ◌+◌, ◌<◌, ◌==◌, nat_lt, List, [], ◌∷◌, if◌then◌else◌}

-- each number of the list is above this one
abbrev pub AllAbove : ℕ → List ℕ → Type 0
AllAbove x [] = Unit {0}
AllAbove x (y ∷ ys) = (x < y) × AllAbove x ys

-- each number is below all that follow it
abbrev pub IsIncreasing : List ℕ → Type 0
IsIncreasing [] = Unit {0}
IsIncreasing (x ∷ xs) = AllAbove x xs × IsIncreasing xs

-- 1 if two numbers are the same, and 0 if they aren't
abbrev pub one_at : ℕ → ℕ → ℕ
one_at x y = if x == y then 1 else 0

-- how often a number occurs in a list
abbrev pub times : ℕ → List ℕ → ℕ
times x [] = 0
times x (y ∷ ys) = one_at x y + times x ys

-- how often a number occurs in several lists
abbrev pub times_in_all : ℕ → List (List ℕ) → ℕ
times_in_all x [] = 0
times_in_all x (numbers ∷ lists) = times x numbers + times_in_all x lists

-- each list increases
abbrev pub AllIncrease : List (List ℕ) → Type 0
AllIncrease [] = Unit {0}
AllIncrease (numbers ∷ lists) = IsIncreasing numbers × AllIncrease lists

-- 1 for a number below the bound, and 0 for others
abbrev pub one_below : ℕ → ℕ → ℕ
one_below bound x = if nat_lt x bound then 1 else 0

-- The draws of `count` requests: lists, one for each worker, each increasing, which together hold each number below `count` once, and no other
abbrev pub Draws : ℕ → List (List ℕ) → Type 0
Draws count lists = AllIncrease lists × ((x : ℕ) → times_in_all x lists ≡ one_below count x)

-- an increasing list with one more number, in its place
abbrev pub put_in : ℕ → List ℕ → List ℕ
put_in x [] = x ∷ []
put_in x (y ∷ ys) = if nat_lt x y then x ∷ y ∷ ys else y ∷ put_in x ys

-- two increasing lists merged into one
abbrev pub merged : List ℕ → List ℕ → List ℕ
merged [] ys = ys
merged (x ∷ xs) ys = put_in x (merged xs ys)
