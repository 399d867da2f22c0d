use Rattle.std.proofs.Common.{◌≡◌, refl, rules, subst}
use Rattle.percpu_gate.specs.Calls.{LiveTryFinds}
use Rattle.freeze_queue.specs.declared.enter.Enter.{Enter}
use Rattle.freeze_queue.specs.declared.enter.Enter.TheVariants.{Entered, Again}
use Rattle.percpu_core.specs.declared.pass_event.PassEvent.TheVariants as events
use Rattle.freeze_queue.specs.Entering.{answered, EnterSteps}
use Rattle.freeze_queue.proofs.Waits.{one_more}
use Rattle.freeze_queue.proofs.queue.BlockQueue.enter.Goals as goal

-- the first try found it
pub returns-else-eq-clause-finds : goal.returns-else-eq-clause-finds
returns-else-eq-clause-finds g c =
    let entered : c.try_enter.result ≡ Entered = search rules in (
      c.args.tag.now.seat,
      search rules,
      subst (λ (e : Enter). LiveTryFinds c.args.self.now.gate c.args.slot c.args.tag.now.seat (answered e)) entered c.try_enter.ensures.finds,
    )

pub returns-else-eq-clause-steps : goal.returns-else-eq-clause-steps
returns-else-eq-clause-steps g c =
    let entered : c.try_enter.result ≡ Entered = search rules in (
      0,
      c.args.tag.now.steps,
      refl,
      subst (λ (e : Enter). EnterSteps events.AddLive c.args.slot e c.args.tag.now.steps c.try_enter.new.tag.steps) entered c.try_enter.ensures.steps,
    )

pub returns-then-eq-clause-steps : goal.returns-then-eq-clause-steps
returns-then-eq-clause-steps g c =
    let again : c.try_enter.result ≡ Again = search rules in
    one_more (subst (λ (e : Enter). EnterSteps events.AddLive c.args.slot e c.args.tag.now.steps c.try_enter.new.tag.steps) again c.try_enter.ensures.steps) c.enter_once_thawed.ensures.steps
