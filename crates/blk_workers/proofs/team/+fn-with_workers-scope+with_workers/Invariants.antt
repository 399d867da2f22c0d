use Rattle.std.proofs.Common.{◌+◌, ◌*◌, length}
use Rattle.blk_workers.proofs.team.+fn-with_workers-scope+with_workers.Given as goal

abbrev pub decreases-scope : goal.decreases-scope
decreases-scope g l = 2 * length l.consumers.items

abbrev pub decreases-with_workers : goal.decreases-with_workers
decreases-with_workers g l = 2 * length l.consumers.items + 1
