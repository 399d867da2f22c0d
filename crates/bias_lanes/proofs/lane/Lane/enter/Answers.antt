use Rattle.std.proofs.Common.{ap, sym, ◌∙◌, refl, arith}
use Rattle.bias_lanes.specs.declared.views.Stage.TheVariants.{Trying}
use Rattle.bias_lanes.specs.Seats.{LanesFacts, in_hand_at}
use Rattle.bias_lanes.proofs.LaneSteps.{says_busy, confirms}
use Rattle.bias_lanes.proofs.Sits.{known, sat, stored_own, key_then, epoch_same, epoch_other, held_then}
use Rattle.bias_lanes.proofs.lane.Lane.enter.Goals as goal

pub store-requires : goal.store-requires
store-requires g c = let own = rw (← c.lanes.view_is, ← c.self.view_is) at c.requires.own in let is = c.self.invariant in let there = is.there in let size = is.size in let id = ap (λ (x : LanesFacts _). x.id) own in
    let slots = ap (λ x. x.slots) id in let words = ap (λ x. x.words) id in
    (id, omega arith, says_busy g.T.Reference.fits _ _ _ (known _ _ _ _ _ is) (omega arith) _ _ (sat _ _ _ _ _ is _ (ap (λ (x : LanesFacts _). x.key) own)) (sym is.stage ∙ rw (← c.self.view_is) at c.requires.idle))

pub load-requires : goal.load-requires
load-requires g c = let own = rw (← c.lanes.view_is, ← c.self.view_is) at c.requires.own in let is = c.self.invariant in let there = is.there in let size = is.size in let id = ap (λ (x : LanesFacts _). x.id) own in
    let slots = ap (λ x. x.slots) id in let words = ap (λ x. x.words) id in let empty = ap (λ s. in_hand_at s c.self.inside.lane) (sym is.stage ∙ rw (← c.self.view_is) at c.requires.idle) in
    let then = stored_own g.T.Reference.fits _ _ _ _ _ is Trying empty _ _ c.store.ensures.2 in let key = key_then g.T.Reference.fits _ _ _ _ _ is Trying empty _ _ c.store.ensures.2 in
    (c.store.ensures.0 ∙ id, omega arith, confirms g.T.Reference.fits _ _ _ (known _ _ _ _ _ then) (omega arith) _ _ (sat _ _ _ _ _ then _ (key ∙ ap (λ (x : LanesFacts _). x.key) own)) refl)

pub returns-then-load-self-clause-found : goal.returns-then-load-self-clause-found
returns-then-load-self-clause-found g c = let is = c.self.invariant in let empty = ap (λ s. in_hand_at s c.self.inside.lane) (sym is.stage ∙ rw (← c.self.view_is) at c.requires.idle) in
    rw (← c.self.view_is) (epoch_same g.T.Reference.fits _ _ _ _ _ is Trying empty _ _ c.store.ensures.2 _ _ _ c.if-load-self.true c.load.ensures.2)

pub returns-clause-found : goal.returns-clause-found
returns-clause-found g c = let is = c.self.invariant in let empty = ap (λ s. in_hand_at s c.self.inside.lane) (sym is.stage ∙ rw (← c.self.view_is) at c.requires.idle) in
    rw (← c.self.view_is) (epoch_other g.T.Reference.fits _ _ _ _ _ is Trying empty _ _ c.store.ensures.2 _ _ _ c.if-load-self.false c.load.ensures.2)

pub returns-then-load-self-clause-held : goal.returns-then-load-self-clause-held
returns-then-load-self-clause-held g c same = let is = c.self.invariant in let empty = ap (λ s. in_hand_at s c.self.inside.lane) (sym is.stage ∙ rw (← c.self.view_is) at c.requires.idle) in
    rw (← c.self.view_is) (held_then g.T.Reference.fits _ _ _ _ _ is Trying empty _ _ c.store.ensures.2 _ _ _ refl c.if-load-self.true c.load.ensures.2)
