use Rattle.std.proofs.Common.{◌∙◌}
use Rattle.blk_workers.proofs.Awaited.{collects_on, same_but_collected}
use Rattle.blk_workers.proofs.handing.collect_until.Goals as goal

pub loop-preserved : goal.loop-preserved
loop-preserved g c = record {
  goes_on = tt;
  is_finite = tt;
  collecting = collects_on g.J.Run.script g.C.QueueName.id c.loop.table c.take_completion.new.table c.loop.collector c.collect-completion.new.collector _ c.loop.invariant.collecting c.collect-completion.ensures.collected c.take_completion.ensures.taken;
  lines = c.take_completion.ensures.taken.lines ∙ c.loop.invariant.lines;
  collector = same_but_collected c.args.collector.now c.loop.collector c.collect-completion.new.collector _ c.loop.invariant.collector c.collect-completion.ensures.collected;
}

pub returns-in_err-take_completion-clause-collecting : goal.returns-in_err-take_completion-clause-collecting
returns-in_err-take_completion-clause-collecting g c =
    collects_on g.J.Run.script g.C.QueueName.id c.loop.table c.take_completion.new.table c.loop.collector c.collect-completion.new.collector _ c.loop.invariant.collecting c.collect-completion.ensures.collected c.take_completion.ensures.taken
