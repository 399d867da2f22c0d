-- What contracts see of a `Counted`.
use Rattle.std.specs.Prelude.{ℕ}

-- the reader or writer inside, how often it failed, how often it broke, which means that it failed other than by an interruption, and how many interruptions in
-- a row were its last results
pub record Tally (T : Type 0) : Type 0 where
  pub inner : T
  pub failures : ℕ
  pub breaks : ℕ
  pub in_row : ℕ
