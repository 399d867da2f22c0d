use Rattle.std.proofs.Common.{◌≡◌, suc, rules, subst}
use Rattle.percpu_gate.specs.Calls.{LiveTryFinds}
use Rattle.freeze_queue.specs.declared.enter.Enter.{Enter}
use Rattle.freeze_queue.specs.declared.enter.Enter.TheVariants.{Entered, Again}
use Rattle.percpu_core.specs.declared.pass_event.PassEvent.TheVariants as events
use Rattle.freeze_queue.specs.Entering.{answered, EnterSteps}
use Rattle.freeze_queue.proofs.queue.BlockQueue.enter_once_thawed.Goals as goal

-- the last try found it
pub returns-then-eq-clause-finds : goal.returns-then-eq-clause-finds
returns-then-eq-clause-finds g c =
    let entered : c.try_enter.result ≡ Entered = search rules in
    let tried = c.try_enter.ensures in (
      c.loop.tag.seat,
      c.loop.invariant.4,
      subst (λ (e : Enter). LiveTryFinds c.args.self.now.gate c.args.slot c.loop.tag.seat (answered e)) entered tried.finds,
    )

pub returns-then-eq-clause-steps : goal.returns-then-eq-clause-steps
returns-then-eq-clause-steps g c =
    let entered : c.try_enter.result ≡ Entered = search rules in
    let refused = c.loop.invariant.7 in (
      refused.0,
      c.loop.tag.steps,
      refused.1,
      subst (λ (e : Enter). EnterSteps events.AddLive c.args.slot e c.loop.tag.steps c.try_enter.new.tag.steps) entered c.try_enter.ensures.steps,
    )

-- another try was refused
pub loop-preserved : goal.loop-preserved
loop-preserved g c =
    let again : c.try_enter.result ≡ Again = search rules in
    let refused = c.loop.invariant.7 in
    let steps = subst (λ (e : Enter). EnterSteps events.AddLive c.args.slot e c.loop.tag.steps c.try_enter.new.tag.steps) again c.try_enter.ensures.steps in
    (tt, tt, search rules, search rules, search rules, search rules, search rules, (suc refused.0, (c.loop.tag.steps, refused.1, steps)))
