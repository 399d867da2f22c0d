use Rattle.std.proofs.Common.{◌≡◌}
use Rattle.blk_workers.specs.Points.{PassesBefore}
use Rattle.blk_workers.specs.Progress.{HasCounted, HasTaken}
use Rattle.blk_workers.proofs.submitter.Submitter.submit_all.Given as goal

abbrev pub invariant-loop-position : goal.invariant-loop-position
invariant-loop-position g l = record {
  taken : HasTaken g.J.Run.script g.J.Run.queue g.L.QueueNames.requests g.C.QueueName.id l._position l.self l.ends.source l.ends.collector;
  source : l.ends.source ≡ record l.initial.ends.source { pushed = l.ends.source.pushed };
  points : PassesBefore g.J.Run.script l._position l.initial.self.points l.self.points;
  tags : HasCounted g.L.QueueNames.free_tags l.self.accepted l.ends.taker;
}
