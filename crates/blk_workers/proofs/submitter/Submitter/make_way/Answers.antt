use Rattle.std.proofs.Common.{◌≡◌, ◌∙◌, refl, sym, ap, subst, ℕ, inr, Bool, length}
use Rattle.freeze_queue.specs.Queue.{QueueFacts}
use Rattle.script_meaning.specs.Queue.{Queue}
use Rattle.script_overlap.specs.Ordered.{IsOrdered, JoinsItsSpan}
use Rattle.in_flight.proofs.NextLines.{hardware_at, moved}
use Rattle.std.specs.Prelude.{MatchBool}
use Rattle.blk_workers.proofs.InStep.{near_itself}
use Rattle.blk_workers.proofs.PassedPoints.{joins_unordered}
use Rattle.blk_workers.proofs.submitter.Submitter.make_way.Goals as goal

pub follow-requires-clause-hardware : goal.follow-requires-clause-hardware
follow-requires-clause-hardware g c =
    ap (λ (q : Queue). q.limits.hardware) (c.in_ok-drain.ensures.drained.collected.state ∙ c.requires.at.state.is) ∙ hardware_at g.J.Run.script (length c.args.self.now.table.replies) ∙ sym c.context.invariant.0.hardware
    ∙ sym (ap (λ (q : QueueFacts). q.hardware) c.context.invariant.0.its_queue)

pub follow-requires-clause-near : goal.follow-requires-clause-near
follow-requires-clause-near g c = near_itself c.drain.new.self.state c.drain.new.self.freezer c.in_ok-drain.ensures.drained.frozen

pub returns-then-not-is_ordered-clause-points : goal.returns-then-not-is_ordered-clause-points
returns-then-not-is_ordered-clause-points g c =
    let script = g.J.Run.script in
    let here = length c.args.self.now.table.replies in
    let checked = c.context.inside.checked.now in
    let at : c.len.result ≡ here = c.len.ensures ∙ c.in_ok-collect_some.ensures.lines in
    let told : JoinsItsSpan checked c.len.result =
    subst (λ (b : Bool). MatchBool b (IsOrdered checked c.len.result) (JoinsItsSpan checked c.len.result)) c.if-not-is_ordered.true c.is_ordered.ensures in
    let joins = moved JoinsItsSpan script checked here c.len.result (sym c.context.invariant.0.its_script) (sym at) told in
    inr (joins_unordered script here joins, refl)
