-- The pieces if a physical block is one sector: each except the last is as long as the limits allow.
use Rattle.std.specs.Prelude.{◌≡◌, ◌↔◌, ℕ, ◌+◌, ◌<◌, List, [], ◌∷◌, sum}
use Rattle.std.specs.List.{All}
use Rattle.queue_limits.specs.Bounds.{Bounds}
use Rattle.queue_limits.specs.Pieces.{IsWithinReach, IsSplit}

-- P holds of each piece, by its first sector and its length, if the first piece begins at `start`
abbrev pub EachLength : (ℕ → ℕ → Type 0) → ℕ → List ℕ → Type 0
EachLength P start [] = Unit {0}
EachLength P start (length ∷ lengths) = P start length × EachLength P (start + length) lengths

-- the same for each piece except the last
abbrev pub EachButLast : (ℕ → ℕ → Type 0) → ℕ → List ℕ → Type 0
EachButLast P start [] = Unit {0}
EachButLast P start (length ∷ []) = Unit {0}
EachButLast P start (length ∷ next ∷ lengths) = P start length × EachButLast P (start + length) (next ∷ lengths)

-- these are the lengths of the longest pieces that the `count` sectors that start at `start` may be cut into
pub record IsLongestSplit (bounds : Bounds) (start count : ℕ) (lengths : List ℕ) : Type 0 where
  pub joined : sum lengths ≡ count
  pub non_empty : All (λ length. 0 < length) lengths
  -- none is longer than the limit, and none has a multiple of the chunk strictly inside
  pub allowed : EachLength (IsWithinReach bounds) start lengths
  -- none except the last could be one sector longer
  pub longest : EachButLast (λ at length. ¬ (IsWithinReach bounds at (length + 1))) start lengths

-- the pieces of any range are the longest pieces, and no other list is
abbrev pub SplitsAreLongest : Bounds → Type 0
SplitsAreLongest bounds = (start count : ℕ) (lengths : List ℕ) → IsSplit bounds start count lengths ↔ IsLongestSplit bounds start count lengths
