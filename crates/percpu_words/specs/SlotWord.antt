-- The word of a slot: closed, or the number that encodes a delta.
use Rattle.std.specs.Prelude.{◌≡◌, ℕ, ◌+◌, ◌-◌, ◌^◌, ◌≤◌, ℤ, pos, negsuc, unsigned_abs}

-- a closed slot is bit 63 alone
abbrev pub closed_mark : ℕ
closed_mark = 2 ^ 63

-- the number that encodes the delta 0
abbrev pub middle : ℕ
middle = 2 ^ 32

abbrev pub most_delta : ℕ
most_delta = 2 ^ 20

-- a delta is within its limit, on either side of 0
abbrev pub IsDelta : ℤ → Type 0
IsDelta d = unsigned_abs d ≤ most_delta

-- the number that encodes a delta: the middle plus the delta
abbrev pub delta_spelling : ℤ → ℕ
delta_spelling (pos n) = middle + n
delta_spelling (negsuc n) = middle - (n + 1)

-- the word encodes the delta
abbrev pub Spells : ℕ → ℤ → Type 0
Spells w d = IsDelta d × (w ≡ delta_spelling d)
