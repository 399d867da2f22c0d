use Rattle.std.proofs.Common.{◌∙◌, ap, arith}
use Rattle.script_meaning.specs.Queue.{Queue, counted}
use Rattle.script_meaning.proofs.Queues.{follows}
use Rattle.script_meaning.proofs.queue_state.QueueState.take.Goals as goal

pub returns-clause-sectors : goal.returns-clause-sectors
returns-clause-sectors c = ap (λ (q : Queue). q.sectors) c.take_there.ensures.after ∙ (follows c.args.self.now c.args.what.now).sectors

pub returns-clause-counts : goal.returns-clause-counts
returns-clause-counts c = omega (arith, ap counted c.take_there.ensures.after, (follows c.args.self.now c.args.what.now).counts)
