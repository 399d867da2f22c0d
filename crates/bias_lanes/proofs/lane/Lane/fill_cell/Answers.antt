use Rattle.std.proofs.Common.{ap, sym, ◌∙◌, None, Some, arith}
use Rattle.bias_lanes.specs.Seats.{LanesFacts}
use Rattle.bias_lanes.proofs.LaneSteps.{parks}
use Rattle.bias_lanes.proofs.Sits.{known, empty_hand, filled, hand_is}
use Rattle.bias_lanes.proofs.lane.Lane.fill_cell.Goals as goal

pub exchange-empty-requires : goal.exchange-empty-requires
exchange-empty-requires g c = let own = rw (← c.lanes.view_is, ← c.self.view_is) at c.requires.own in let is = c.self.invariant in let id = ap (λ (x : LanesFacts _). x.id) own in
    let slots = ap (λ x. x.slots) id in let words = ap (λ x. x.words) id in
    (id, (None, hand_is _ _ _ None (empty_hand _ _ _ _ _ is (sym is.stage ∙ rw (← c.self.view_is) at c.requires.unbiased))))

pub store-requires : goal.store-requires
store-requires g c = let own = rw (← c.lanes.view_is, ← c.self.view_is) at c.requires.own in let is = c.self.invariant in let id = ap (λ (x : LanesFacts _). x.id) own in
    let slots = ap (λ x. x.slots) id in let words = ap (λ x. x.words) id in let there = is.there in let size = is.size in let unbiased = sym is.stage ∙ rw (← c.self.view_is) at c.requires.unbiased in
    (c.exchange-empty.ensures.0 ∙ id, omega arith, parks g.T.Reference.fits _ _ _ (known _ _ _ _ _ is) (omega arith) c.args.reference _ (filled _ _ _ _ _ is _ (ap (λ (x : LanesFacts _). x.key) own) unbiased (Some c.args.reference) _ c.exchange-empty.ensures.3) unbiased is.even (rw (← c.lanes.view_is) at c.requires.fits))
