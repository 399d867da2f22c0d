use Rattle.std.proofs.Common.{ap, ◌∙◌, None, Some, arith}
use Rattle.bias_lanes.specs.Seats.{LanesFacts}
use Rattle.bias_lanes.proofs.FreezerSteps.{restores}
use Rattle.bias_lanes.proofs.Sits.{freezer_known, refilled, hand_is}
use Rattle.bias_lanes.proofs.freezer.Freezer.restore.Goals as goal

pub overflow_mul-cell : goal.overflow_mul-cell
overflow_mul-cell g c = let there = rw (← c.lanes.view_is) at c.requires.there in let count = c.lanes.invariant.0 in let few = c.lanes.invariant.2 in omega arith

pub overflow_add-cell : goal.overflow_add-cell
overflow_add-cell g c = let there = rw (← c.lanes.view_is) at c.requires.there in let count = c.lanes.invariant.0 in let few = c.lanes.invariant.2 in omega arith

pub exchange-empty-requires : goal.exchange-empty-requires
exchange-empty-requires g c = let own = rw (← c.lanes.view_is, ← c.self.view_is) at c.requires.own in let is = c.self.invariant in let id = ap (λ (x : LanesFacts _). x.id) own in
    let slots = ap (λ x. x.slots) id in let words = ap (λ x. x.words) id in
    (id, (None, hand_is _ _ _ None (rw (← c.self.view_is) at c.requires.reclaimed)))

pub store-requires : goal.store-requires
store-requires g c = let own = rw (← c.lanes.view_is, ← c.self.view_is) at c.requires.own in let is = c.self.invariant in let id = ap (λ (x : LanesFacts _). x.id) own in
    let slots = ap (λ x. x.slots) id in let words = ap (λ x. x.words) id in let there = rw (← c.lanes.view_is) at c.requires.there in let size = is.size in (
      c.exchange-empty.ensures.0 ∙ id,
      omega arith,
      restores g.T.Reference.fits _ _ _ (freezer_known g.T.Reference.fits _ _ _ is) c.args.reference c.args.lane _
          (refilled g.T.Reference.fits _ _ _ is _ (ap (λ (x : LanesFacts _). x.key) own) c.args.lane (Some c.args.reference) _ (rw (← c.self.view_is) at c.requires.reclaimed) c.exchange-empty.ensures.3) there (rw (← c.self.view_is) at c.requires.out) (rw (← c.lanes.view_is) at c.requires.fits),
    )
