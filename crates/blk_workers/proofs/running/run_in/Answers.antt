use Rattle.std.proofs.Common.{rules}
use Rattle.blk_workers.specs.Progress.{IsRanBy}
use Rattle.blk_workers.proofs.RunEnds.{both_ok}
use Rattle.blk_workers.proofs.running.run_in.Goals as goal

pub returns : goal.returns
returns g c = record {
  ran = both_ok c.into_ran.result _ _ (IsRanBy g.J.Run.script c.args.inputs.now.config.workers) (λ ran is_run drawn. (is_run, search rules)) c.into_ran.ensures.run c.into_ran.ensures.drawn;
}
