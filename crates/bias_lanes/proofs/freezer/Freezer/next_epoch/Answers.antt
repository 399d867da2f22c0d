use Rattle.std.proofs.Common.{ap, arith}
use Rattle.bias_lanes.specs.Seats.{LanesFacts}
use Rattle.bias_lanes.proofs.FreezerSteps.{stores_epoch}
use Rattle.bias_lanes.proofs.Sits.{freezer_known, freezer_sat}
use Rattle.bias_lanes.proofs.freezer.Freezer.next_epoch.Goals as goal

pub store-requires : goal.store-requires
store-requires g c = let own = rw (← c.lanes.view_is, ← c.self.view_is) at c.requires.own in let is = c.self.invariant in let id = ap (λ (x : LanesFacts _). x.id) own in
    let slots = ap (λ x. x.slots) id in let words = ap (λ x. x.words) id in let size = is.size in
    (id, omega arith, stores_epoch g.T.Reference.fits _ _ _ (freezer_known g.T.Reference.fits _ _ _ is) _ _ (freezer_sat g.T.Reference.fits _ _ _ is _ (ap (λ (x : LanesFacts _). x.key) own)))
