-- How many workers, slots and tags a run has.
use Rattle.std.specs.Prelude.{ℕ, ◌≤◌}
use Rattle.blk_workers.specs.declared.config.TheConstants.{MOST_SLOTS, MOST_TAGS, MOST_WORKERS}

pub record Sizes : Type 0 where
  pub workers : ℕ
  pub slots : ℕ
  pub tags : ℕ

-- at least one of each, and at most the maximum
pub record AreWithin (sizes : Sizes) : Type 0 where
  pub a_worker : 1 ≤ sizes.workers
  pub workers : sizes.workers ≤ MOST_WORKERS
  pub a_slot : 1 ≤ sizes.slots
  pub slots : sizes.slots ≤ MOST_SLOTS
  pub a_tag : 1 ≤ sizes.tags
  pub tags : sizes.tags ≤ MOST_TAGS
