use Rattle.std.proofs.Common.{rules, ◌≡◌, ◌∙◌, sym, ap, subst, ◌+◌, ◌-◌, ◌<◌, ◌%◌, IfSome}
use Rattle.std.proofs.lemmas.List.Elements.{All-pop}
use Rattle.std.proofs.lemmas.Nat.{mod_below}
use Rattle.freeze_queue.specs.Queue.{QueueFacts}
use Rattle.script_meaning.specs.Requests.{accepted_in_all}
use Rattle.blk_workers.specs.Progress.{IsNewConsumer}
use Rattle.blk_workers.proofs.team.+fn-with_workers-scope+with_workers.Goals as goal

pub scope-spawn-requires-after_bounds : goal.scope-spawn-requires-after_bounds
scope-spawn-requires-after_bounds g t c κs within =
    let is_new = IsNewConsumer g.L.QueueNames.requests (accepted_in_all g.J.Run.script + 1) in
    let popped = All-pop is_new c.captures.consumers.items c.pop.new.self.items c.pop.result c.pop.ensures.items c.requires.consumers in
    let slots : c.slots.result ≡ g.J.Run.queue.gate.slots = c.slots.ensures.value ∙ ap (λ (q : QueueFacts). q.gate.slots) c.context.invariant.0.its_queue in
    let some = subst (λ n. 0 < n) (sym slots) c.context.invariant.0.a_slot in
    let slot = subst (λ n. (c.captures.workers - c.len.result + 1) % c.slots.result < n) slots (mod_below (c.captures.workers - c.len.result + 1) c.slots.result some) in
    (slot, (subst (λ r. IfSome r is_new) c.in-Some.is popped.1, search rules))

pub scope-with_workers-led-requires-clause-consumers :
    goal.scope-with_workers-led-requires-clause-consumers
scope-with_workers-led-requires-clause-consumers g t c κs within =
    let is_new = IsNewConsumer g.L.QueueNames.requests (accepted_in_all g.J.Run.script + 1) in
    let popped = All-pop is_new c.captures.consumers.items c.pop.new.self.items c.pop.result c.pop.ensures.items c.requires.consumers in
    popped.0
