use Rattle.std.proofs.Common.{ap, sym, ◌∙◌, arith}
use Rattle.bias_lanes.specs.Seats.{LanesFacts}
use Rattle.bias_lanes.proofs.LaneSteps.{takes_back}
use Rattle.bias_lanes.proofs.Sits.{known, sat, cell_none, cell_some, cell_in_hand}
use Rattle.bias_lanes.proofs.lane.Lane.empty_cell.Goals as goal

pub compare_exchange-requires : goal.compare_exchange-requires
compare_exchange-requires g c = let own = rw (← c.lanes.view_is, ← c.self.view_is) at c.requires.own in let is = c.self.invariant in let there = is.there in let size = is.size in let id = ap (λ (x : LanesFacts _). x.id) own in
    let slots = ap (λ x. x.slots) id in let words = ap (λ x. x.words) id in
    (id, omega arith, takes_back g.T.Reference.fits _ _ _ (known _ _ _ _ _ is) (omega arith) _ _ (sat _ _ _ _ _ is _ (ap (λ (x : LanesFacts _). x.key) own)) (sym is.stage ∙ rw (← c.self.view_is) at c.requires.parked))

pub returns-then-compare_exchange-ne-PARKED-clause-found : goal.returns-then-compare_exchange-ne-PARKED-clause-found
returns-then-compare_exchange-ne-PARKED-clause-found g c = rw (← c.self.view_is) (cell_none g.T.Reference.fits _ _ _ _ _ c.self.invariant _ _ _ c.compare_exchange.ensures.2 c.if-compare_exchange-ne-PARKED.true)

pub exchange-requires : goal.exchange-requires
exchange-requires g c = let own = rw (← c.lanes.view_is, ← c.self.view_is) at c.requires.own in
    (c.compare_exchange.ensures.0 ∙ ap (λ (x : LanesFacts _). x.id) own, cell_in_hand g.T.Reference.fits _ _ _ _ _ c.self.invariant _ _ _ c.compare_exchange.ensures.2 c.if-compare_exchange-ne-PARKED.false)

pub returns-clause-found : goal.returns-clause-found
returns-clause-found g c = rw (← c.self.view_is) (cell_some g.T.Reference.fits _ _ _ _ _ c.self.invariant _ _ _ c.compare_exchange.ensures.2 c.if-compare_exchange-ne-PARKED.false _ c.exchange.ensures.2)
