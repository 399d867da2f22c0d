use Rattle.std.proofs.Common.{ap, sym, ◌∙◌, arith}
use Rattle.bias_lanes.specs.Seats.{LanesFacts}
use Rattle.bias_lanes.proofs.LaneSteps.{begins}
use Rattle.bias_lanes.proofs.Sits.{known, sat, epoch_loaded}
use Rattle.bias_lanes.proofs.lane.Lane.load_epoch.Goals as goal

pub load-epoch-requires : goal.load-epoch-requires
load-epoch-requires g c = let own = rw (← c.lanes.view_is, ← c.self.view_is) at c.requires.own in let is = c.self.invariant in let there = is.there in let size = is.size in let id = ap (λ (x : LanesFacts _). x.id) own in
    let slots = ap (λ x. x.slots) id in let words = ap (λ x. x.words) id in
    (id, omega arith, begins g.T.Reference.fits _ _ _ (known _ _ _ _ _ is) (omega arith) _ _ (sat _ _ _ _ _ is _ (ap (λ (x : LanesFacts _). x.key) own)) (sym is.stage ∙ rw (← c.self.view_is) at c.requires.unbiased))

pub returns-clause-found : goal.returns-clause-found
returns-clause-found g c = rw (← c.self.view_is) (epoch_loaded g.T.Reference.fits _ _ _ _ _ c.self.invariant _ _ _ c.load-epoch.ensures.2)
