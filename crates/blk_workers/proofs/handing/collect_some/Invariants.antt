use Rattle.std.proofs.Common.{◌≡◌, length}
use Rattle.blk_workers.specs.Progress.{IsCollecting}
use Rattle.blk_workers.proofs.handing.collect_some.Given as goal

abbrev pub invariant-loop : goal.invariant-loop
invariant-loop g l = record {
  collecting : IsCollecting g.J.Run.script g.C.QueueName.id l.table l.collector;
  lines : length l.table.replies ≡ length l.initial.table.replies;
  collector : l.collector ≡ record l.initial.collector { collected = l.collector.collected };
}
