use Rattle.std.proofs.Common.{rules, sym, ◌∙◌, subst}
use Rattle.queue_core.specs.AtTheGate.{AreInForce}
use Rattle.queue_core.proofs.ToldLimits.{in_force}
use Rattle.queue_core.proofs.at_gate.ask.Goals as goal

pub returns : goal.returns
returns c = rw (← c.queue.view_is) (record {
  own = c.load_words.ensures.own;
  view = c.load_words.ensures.read ∙ sym (λ i. record c.args.pass.now.view { read = (c.load_words.ensures.read i).read });
  told = search rules;
  steps = c.load_words.ensures.steps;
  in_force = subst (AreInForce _ _ _) (sym c.from_words.ensures.read) (in_force _ _ c.args.pass.now.view _ c.load_words.ensures.together);
})
