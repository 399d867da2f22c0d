use Rattle.std.proofs.Common.{◌≡◌, false, rules}
use Rattle.queue_core.specs.BiasedTags.{says_in}
use Rattle.freeze_queue.proofs.Waits.{one_more_by_lane}
use Rattle.freeze_queue.proofs.queue.BlockQueue.enter_by_lane.Goals as goal

-- the first attempt was in vain, too
pub returns-then-ne-clause-tries : goal.returns-then-ne-clause-tries
returns-then-ne-clause-tries g c =
    let out : says_in c.try_enter_by_lane.result ≡ false = search rules in
    one_more_by_lane out c.try_enter_by_lane.ensures c.enter_by_lane_once_thawed.ensures.tries
