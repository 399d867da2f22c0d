-- The pieces of a range of sectors: what one request is cut into under the limits.
use Rattle.std.specs.Prelude.{◌≡◌, ℕ, ◌+◌, ◌*◌, ◌<◌, ◌≤◌, List, [], ◌∷◌, sum}
use Rattle.std.specs.List.{All}
use Rattle.queue_limits.specs.Bounds.{Bounds}

-- no multiple of the chunk lies strictly inside the `length` sectors that start at `start`; a chunk of 0 has no multiple except 0
abbrev pub StaysInChunk : Bounds → ℕ → ℕ → Type 0
StaysInChunk bounds start length = (k : ℕ) → start < k * bounds.chunk → start + length ≤ k * bounds.chunk

-- the `length` sectors that start at `start` are within the reach there: no more than the limit, and in one chunk
abbrev pub IsWithinReach : Bounds → ℕ → ℕ → Type 0
IsWithinReach bounds start length = (length ≤ bounds.max) × StaysInChunk bounds start length

-- some sectors that start at `start`, within the reach there, end where a physical block ends
abbrev pub EndsWithBlock : Bounds → ℕ → ℕ → Type 0
EndsWithBlock bounds start length = (0 < length) × IsWithinReach bounds start length × ((k : ℕ) × (start + length ≡ k * bounds.physical))

-- the greatest length of which P holds
abbrev pub IsGreatest : (ℕ → Type 0) → ℕ → Type 0
IsGreatest P length = P length × ((other : ℕ) → P other → other ≤ length)

-- the first piece of the `left` sectors that start at `start` has `length`
pub record IsFirstPiece (bounds : Bounds) (start left length : ℕ) : Type 0 where
  -- all that is left is one piece if it is within the reach
  pub whole : IsWithinReach bounds start left → length ≡ left
  -- otherwise the piece ends with the last physical block that ends within the reach
  pub with_block : ¬ (IsWithinReach bounds start left) → (some : ℕ) → EndsWithBlock bounds start some → IsGreatest (EndsWithBlock bounds start) length
  -- and if no block ends there, it is as long as its reach
  pub in_block : ¬ (IsWithinReach bounds start left) → ((some : ℕ) → ¬ (EndsWithBlock bounds start some)) → IsGreatest (IsWithinReach bounds start) length

-- P holds of each piece, by its first sector, the sectors that are left there, and its length, if the first piece begins at `start`
abbrev pub EachPiece : (ℕ → ℕ → ℕ → Type 0) → ℕ → List ℕ → Type 0
EachPiece P start [] = Unit {0}
EachPiece P start (length ∷ lengths) = P start (length + sum lengths) length × EachPiece P (start + length) lengths

-- these are the lengths of the pieces of the `count` sectors that start at `start`
pub record IsSplit (bounds : Bounds) (start count : ℕ) (lengths : List ℕ) : Type 0 where
  -- they join to the range
  pub joined : sum lengths ≡ count
  pub non_empty : All (λ length. 0 < length) lengths
  -- each is the first piece of what is left where it begins
  pub cut : EachPiece (IsFirstPiece bounds) start lengths
