use Rattle.std.proofs.Common.{◌≡◌, false, suc, rules}
use Rattle.queue_core.specs.BiasedTags.{says_in}
use Rattle.freeze_queue.proofs.queue.BlockQueue.enter_by_lane_once_thawed.Goals as goal

-- one attempt in vain more
pub loop-preserved : goal.loop-preserved
loop-preserved g c =
    let vain = c.loop.invariant.4 in
    let out : says_in c.try_enter_by_lane.result ≡ false = search rules in
    (tt, tt, search rules, search rules, (suc vain.0, (c.loop.tag, vain.1, c.try_enter_by_lane.result, out, c.try_enter_by_lane.ensures)))
