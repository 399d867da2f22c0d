use Rattle.std.proofs.Common.{◌≡◌, suc, ap, arith, rules, subst}
use Rattle.freeze_queue.specs.AtTheGate.{AreInForce}
use Rattle.freeze_queue.specs.Queue.{TagFacts}
use Rattle.uses.proofs.settings.enter_under.Goals as goal

-- what the tag has read is what was asked for
pub returns-then-eq-clause-in_force : goal.returns-then-eq-clause-in_force
returns-then-eq-clause-in_force g c =
    let same : c.limits.result ≡ c.args.limits.now = search rules in
    (c.enter.new.tag.seat, (search rules), subst (AreInForce c.args.queue.now.gate c.args.queue.now.hardware c.enter.new.tag.seat) same c.limits.ensures.in_force)

pub returns-then-eq-clause-steps : goal.returns-then-eq-clause-steps
returns-then-eq-clause-steps g c =
    let rounds = c.loop.invariant.5 in
    (rounds.0, c.loop.tag.steps, c.enter.new.tag.steps, rounds.1, c.enter.ensures.steps, c.limits.ensures.steps)

-- one round more
pub loop-preserved : goal.loop-preserved
loop-preserved g c =
    let rounds = c.loop.invariant.5 in
    let given = ap (λ (t : TagFacts). t.seat.live_given) c.limits.ensures.told in
    let left = ap (λ (t : TagFacts). t.seat.live_given) c.leave.ensures.leaves in
    let before = c.loop.invariant.4 in
    let more = c.enter.ensures.counted in
    (tt, tt, search rules, search rules, omega arith, (suc rounds.0, (c.leave.result, c.loop.tag.steps, c.enter.new.tag.steps, c.limits.new.tag.steps, rounds.1, c.enter.ensures.steps, c.limits.ensures.steps, c.leave.ensures.steps)))
