use Rattle.std.proofs.Common.{rules, ◌+◌, subst}
use Rattle.blk_workers.specs.Points.{PassesAt}
use Rattle.blk_workers.specs.Progress.{HasTaken}
use Rattle.blk_workers.proofs.PassedPoints.{passes_more}
use Rattle.blk_workers.proofs.submitter.Submitter.submit_all.Goals as goal

pub loop-position-preserved : goal.loop-position-preserved
loop-position-preserved g c =
    let script = g.J.Run.script in
    let lines = c.loop-position.invariant.taken.at.lines in
    record {
      taken = subst (λ n. HasTaken script g.J.Run.queue g.L.QueueNames.requests g.C.QueueName.id (n + 1) c.take_next.new.self c.take_next.new.ends.source c.take_next.new.ends.collector) lines
          c.in_default.ensures.taken;
      source = search rules;
      points = passes_more script c.loop-position._position c.args.self.now.points c.loop-position.self.points c.take_next.new.self.points c.loop-position.invariant.points
          (subst (λ n. PassesAt script n c.loop-position.self.points c.take_next.new.self.points) lines c.in_default.ensures.points);
      tags = search rules;
    }
