use Rattle.bias_lanes.proofs.FreezerSteps.{one_more}
use Rattle.bias_lanes.proofs.lanes.first_words.Goals as goal

pub loop-preserved : goal.loop-preserved
loop-preserved c = rw (c.in_ok-push-3.ensures.items, c.in_ok-push-2.ensures.items) (one_more _ _ c.loop.invariant)
