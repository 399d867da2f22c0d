use Rattle.std.proofs.Common.{arith}
use Rattle.bias_lanes.proofs.Allowed.{comes}
use Rattle.bias_lanes.proofs.FreezerSteps.{claims}
use Rattle.bias_lanes.proofs.Sits.{claim_none, claim_some}
use Rattle.bias_lanes.proofs.lanes.Lanes.owner.Goals as goal

pub load_new_seat-seat-requires : goal.load_new_seat-seat-requires
load_new_seat-seat-requires g c = (let size = c.self.invariant.1 in omega arith, comes g.T.Reference.fits _ _ _)

pub compare_exchange-requires : goal.compare_exchange-requires
compare_exchange-requires g c = let there = rw (← c.self.view_is) at c.requires.there in let size = c.self.invariant.1 in let count = c.self.invariant.0 in
    (c.load_new_seat-seat.ensures.0, omega arith, claims g.T.Reference.fits _ _ _ c.args.lane there _ c.load_new_seat-seat.ensures.2)

pub returns-then-compare_exchange-ne-VACANT-clause-found : goal.returns-then-compare_exchange-ne-VACANT-clause-found
returns-then-compare_exchange-ne-VACANT-clause-found g c = rw (← c.self.view_is) (claim_none g.T.Reference.fits _ _ c.load_new_seat-seat.ensures.2 c.args.lane _ _ c.compare_exchange.ensures.2 c.if-compare_exchange-ne-VACANT.true)

pub returns-clause-found : goal.returns-clause-found
returns-clause-found g c = rw (← c.self.view_is) (claim_some g.T.Reference.fits _ _ c.load_new_seat-seat.ensures.2 c.args.lane _ _ c.compare_exchange.ensures.2 c.if-compare_exchange-ne-VACANT.false)
