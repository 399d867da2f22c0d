-- The replies so far lead to the world as it is, and there is room for the others.
use Rattle.std.proofs.Common.{◌≡◌, ◌≤◌, length, take, vec_len}
use Rattle.std.specs.Prelude.{vec_capacity}
use Rattle.percpu_core.specs.Machine.{Run, SameSizes}
use Rattle.percpu_core.proofs.schedule.replay.Given as goal

abbrev pub invariant-loop-at : goal.invariant-loop-at
invariant-loop-at l = record {
  run : Run l.fn.world (take l.at l.events) l.replies.items l.world;
  sizes : SameSizes l.fn.world l.world;
  count : vec_len l.replies ≡ l.at;
  room : length l.events ≤ vec_capacity l.replies;
}
