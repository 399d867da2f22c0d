use Rattle.std.proofs.Common.{sym, subst, refl, ◌+◌, length, rules}
use Rattle.freeze_queue.specs.Queue.{QueueFacts}
use Rattle.blk_workers.specs.Progress.{IsFollowing}
use Rattle.blk_workers.proofs.submitter.Submitter.drain.Goals as goal

pub returns-clause-drained : goal.returns-clause-drained
returns-clause-drained g c =
    let here = length c.args.self.now.table.replies in
    let its_queue = c.context.invariant.0.its_queue in
    let before : IsFollowing c.context.inside.queue.now here c.args.self.now.freezer =
    subst (λ (q : QueueFacts). IsFollowing q here c.args.self.now.freezer) (sym its_queue) c.requires.at.freezer
    in
    record {
      collected = record {
        collecting = c.collect_until.ensures.collecting;
        collector = c.collect_until.ensures.collector;
        lines = c.collect_until.ensures.lines;
        state = refl;
        accepted = refl;
        follows = subst (λ (q : QueueFacts). IsFollowing q (here + 1) c.freeze.new.freezer) its_queue (c.freeze.ensures.follows here before);
      };
      frozen = search rules;
    }
