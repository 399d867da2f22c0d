use Rattle.blk_workers.proofs.RunEnds.{run_ended}
use Rattle.blk_workers.proofs.submitter.Submitter.into_ran.Goals as goal

pub returns-clause-run : goal.returns-clause-run
returns-clause-run g c =
    let end = c.requires.end in
    run_ended g.J.Run.script c.args.self.table.replies c.args.self.table.disk c.in_ok-replies.replies.items end.stands end.lines end.none_owed c.in_ok-replies.ensures
