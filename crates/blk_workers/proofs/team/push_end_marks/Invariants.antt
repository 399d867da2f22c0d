use Rattle.std.proofs.Common.{◌≡◌, ◌+◌}
use Rattle.blk_workers.proofs.team.push_end_marks.Given as goal

abbrev pub invariant-loop-worker : goal.invariant-loop-worker
invariant-loop-worker g l = l.source ≡ record l.initial.source { marks = l.initial.source.marks + l._worker }
