use Rattle.std.proofs.Common.{rules, ◌≡◌, true}
use Rattle.queue_core.specs.BiasedTags.{is_plain}
use Rattle.queue_core.proofs.Brought.{in_vain}
use Rattle.queue_core.proofs.biased.BiasedTag.leave_gate.Goals as goal

pub returns-then-eq-clause-steps : goal.returns-then-eq-clause-steps
returns-then-eq-clause-steps c plain =
    let was : is_plain c.args.self.now ≡ true = search rules in
    in_vain _ _ _ _ _ _ c.if-keep.true was c.park.ensures.back (λ over. search rules) (c.leave_unparked.ensures.steps plain)
