use Rattle.std.proofs.Common.{ap, ◌≡◌, ◌%◌, ℕ, subst, arith}
use Rattle.bias_lanes.specs.Seats.{LanesFacts}
use Rattle.bias_lanes.proofs.FreezerSteps.{looks}
use Rattle.bias_lanes.proofs.Sits.{freezer_known, freezer_sat, look_found, look_busy}
use Rattle.bias_lanes.proofs.freezer.Freezer.look.Goals as goal

pub overflow_mul-word : goal.overflow_mul-word
overflow_mul-word g c = let there = rw (← c.lanes.view_is) at c.requires.there in let count = c.lanes.invariant.0 in let few = c.lanes.invariant.2 in omega arith

pub overflow_add-word : goal.overflow_add-word
overflow_add-word g c = let there = rw (← c.lanes.view_is) at c.requires.there in let count = c.lanes.invariant.0 in let few = c.lanes.invariant.2 in omega arith

pub load-requires : goal.load-requires
load-requires g c = let own = rw (← c.lanes.view_is, ← c.self.view_is) at c.requires.own in let is = c.self.invariant in let id = ap (λ (x : LanesFacts _). x.id) own in
    let slots = ap (λ x. x.slots) id in let words = ap (λ x. x.words) id in let there = rw (← c.lanes.view_is) at c.requires.there in let size = is.size in let odd = rw (← c.self.view_is) at c.requires.frozen in
    (id, omega arith, looks g.T.Reference.fits _ _ _ (freezer_known g.T.Reference.fits _ _ _ is) _ _ (freezer_sat g.T.Reference.fits _ _ _ is _ (ap (λ (x : LanesFacts _). x.key) own)) c.args.lane there (subst (λ (e : ℕ). e % 2 ≡ 1) is.epoch odd))

pub returns-clause-looks : goal.returns-clause-looks
returns-clause-looks g c = rw (← c.self.view_is) (look_found g.T.Reference.fits _ _ _ c.self.invariant c.args.lane _ _ _ c.load.ensures.0 c.load.ensures.2)

pub returns-clause-busy : goal.returns-clause-busy
returns-clause-busy g c is = look_busy g.T.Reference.fits _ _ _ c.self.invariant c.args.lane _ _ _ is c.load.ensures.2
