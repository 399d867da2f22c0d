use Rattle.std.proofs.Common.{◌≡◌, length}
use Rattle.blk_workers.specs.Progress.{IsCollecting}
use Rattle.blk_workers.proofs.handing.collect_until.Given as goal

abbrev pub invariant-loop : goal.invariant-loop
invariant-loop g l = record {
  goes_on : (goal.iterator-loop g).can_next l.iterator';
  is_finite : (goal.iterator-loop g).is_finite l.iterator';
  collecting : IsCollecting g.J.Run.script g.C.QueueName.id l.table l.collector;
  lines : length l.table.replies ≡ length l.initial.table.replies;
  collector : l.collector ≡ record l.initial.collector { collected = l.collector.collected };
}
