use Rattle.std.proofs.Common.{rules}
use Rattle.freeze_queue_c.specs.FreezerCalls.{begun_number, begun_depth, StartedFreeze}
use Rattle.freeze_queue_c.proofs.Closed.{closed_counts}
use Rattle.freeze_queue_c.proofs.freezer_calls.freeze_queue_start_freeze.Goals as goal

pub returns-in_default : goal.returns-in_default
returns-in_default c = closed_counts begun_number begun_depth StartedFreeze (search rules) (search rules) (search rules) (search rules)
