use Rattle.std.proofs.Common.{arith}
use Rattle.in_flight.proofs.replies.Replies.len.Goals as goal

pub overflow_add-result : goal.overflow_add-result
overflow_add-result c = omega (arith, c.len.ensures.few, c.self.inside.rest.ok)
