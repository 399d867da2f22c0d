-- Limits as the three words that a gate guards.
use Rattle.std.specs.Prelude.{ℕ, ◌==◌, ◌||◌, nat_lt, if◌then◌else◌, List, [], ◌∷◌, slice_index}
use Rattle.queue_limits.specs.Bounds.{Bounds, is_physical_size}
use Rattle.queue_limits.specs.declared.limits.TheConstants.{CHUNK_LIMIT}

abbrev pub to_words : Bounds → List ℕ
to_words limits = limits.max ∷ limits.chunk ∷ limits.physical ∷ []

-- any three words are read: a first word that is 0 or above the hardware limit as that limit, a second that can't be a chunk as 0, and a third that can't be a
-- physical block as 1
abbrev pub from_words : ℕ → List ℕ → Bounds
from_words hardware words =
    let max = slice_index words 0 in
    let chunk = slice_index words 1 in
    let physical = slice_index words 2 in
    record {
      hardware = hardware;
      max = (if max == 0 || nat_lt hardware max then hardware else max);
      chunk = (if nat_lt CHUNK_LIMIT chunk then 0 else chunk);
      physical = (if is_physical_size physical then physical else 1);
    }
