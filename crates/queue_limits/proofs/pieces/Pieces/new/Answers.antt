use Rattle.std.proofs.Common.{arith}
use Rattle.queue_limits.proofs.Splits.{greedy_splits}
use Rattle.queue_limits.proofs.pieces.Pieces.new.Goals as goal

pub returns : goal.returns
returns c = greedy_splits c.args.left c.args.limits c.args.start c.args.left c.max-max.ensures.allowed.some_sector (omega arith)
