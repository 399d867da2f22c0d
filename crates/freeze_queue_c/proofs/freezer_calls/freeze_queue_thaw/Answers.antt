use Rattle.std.proofs.Common.{rules}
use Rattle.freeze_queue_c.specs.FreezerCalls.{thawed_number, thawed_depth, Thaws}
use Rattle.freeze_queue_c.proofs.Closed.{closed_counts}
use Rattle.freeze_queue_c.proofs.freezer_calls.freeze_queue_thaw.Goals as goal

pub returns-in_default : goal.returns-in_default
returns-in_default c = closed_counts thawed_number thawed_depth Thaws (search rules) (search rules) (search rules) (search rules)
