use Rattle.std.proofs.Common.{ap, subst, arith}
use Rattle.bias_lanes.specs.Seats.{LanesFacts, CanEnd}
use Rattle.bias_lanes.proofs.LaneSteps.{gives_up}
use Rattle.bias_lanes.proofs.Sits.{known, sat}
use Rattle.bias_lanes.proofs.lane.Lane.give_up.Goals as goal

pub store-requires : goal.store-requires
store-requires g c = let own = rw (← c.lanes.view_is, ← c.self.view_is) at c.requires.own in let is = c.self.invariant in let there = is.there in let size = is.size in let id = ap (λ (x : LanesFacts _). x.id) own in
    let slots = ap (λ x. x.slots) id in let words = ap (λ x. x.words) id in
    (id, omega arith, gives_up g.T.Reference.fits _ _ _ (known _ _ _ _ _ is) (omega arith) _ _ (sat _ _ _ _ _ is _ (ap (λ (x : LanesFacts _). x.key) own)) (subst CanEnd is.stage (rw (← c.self.view_is) at c.requires.stage)))
