use Rattle.std.proofs.Common.{ap, ◌∙◌, arith}
use Rattle.bias_lanes.specs.Seats.{LanesFacts}
use Rattle.bias_lanes.proofs.FreezerSteps.{reclaims}
use Rattle.bias_lanes.proofs.Sits.{freezer_known, freezer_sat, reclaim_none, reclaim_some, reclaim_in_hand}
use Rattle.bias_lanes.proofs.freezer.Freezer.reclaim.Goals as goal

pub overflow_mul-cell : goal.overflow_mul-cell
overflow_mul-cell g c = let there = rw (← c.lanes.view_is) at c.requires.there in let count = c.lanes.invariant.0 in let few = c.lanes.invariant.2 in omega arith

pub overflow_add-cell : goal.overflow_add-cell
overflow_add-cell g c = let there = rw (← c.lanes.view_is) at c.requires.there in let count = c.lanes.invariant.0 in let few = c.lanes.invariant.2 in omega arith

pub compare_exchange-requires : goal.compare_exchange-requires
compare_exchange-requires g c = let own = rw (← c.lanes.view_is, ← c.self.view_is) at c.requires.own in let is = c.self.invariant in let id = ap (λ (x : LanesFacts _). x.id) own in
    let slots = ap (λ x. x.slots) id in let words = ap (λ x. x.words) id in let there = rw (← c.lanes.view_is) at c.requires.there in let size = is.size in
    (id, omega arith, reclaims g.T.Reference.fits _ _ _ (freezer_known g.T.Reference.fits _ _ _ is) _ _ (freezer_sat g.T.Reference.fits _ _ _ is _ (ap (λ (x : LanesFacts _). x.key) own)) c.args.lane there (rw (← c.self.view_is) at c.requires.out))

pub returns-then-compare_exchange-ne-PARKED-clause-found : goal.returns-then-compare_exchange-ne-PARKED-clause-found
returns-then-compare_exchange-ne-PARKED-clause-found g c = rw (← c.self.view_is) (reclaim_none g.T.Reference.fits _ _ _ c.self.invariant _ c.args.lane _ _ c.compare_exchange.ensures.2 c.if-compare_exchange-ne-PARKED.true)

pub exchange-requires : goal.exchange-requires
exchange-requires g c = let own = rw (← c.lanes.view_is, ← c.self.view_is) at c.requires.own in
    (c.compare_exchange.ensures.0 ∙ ap (λ (x : LanesFacts _). x.id) own, reclaim_in_hand g.T.Reference.fits _ _ _ c.self.invariant _ c.args.lane _ _ c.compare_exchange.ensures.2 c.if-compare_exchange-ne-PARKED.false)

pub returns-clause-found : goal.returns-clause-found
returns-clause-found g c = rw (← c.self.view_is) (reclaim_some g.T.Reference.fits _ _ _ c.self.invariant _ c.args.lane _ _ c.compare_exchange.ensures.2 c.if-compare_exchange-ne-PARKED.false _ c.exchange.ensures.2)
