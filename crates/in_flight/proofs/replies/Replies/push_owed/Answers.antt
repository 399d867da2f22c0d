use Rattle.std.proofs.Common.{arith}
use Rattle.in_flight.proofs.Places.{count-le-length}
use Rattle.in_flight.proofs.replies.Replies.push_owed.Goals as goal

pub overflow_add-self : goal.overflow_add-self
overflow_add-self c = omega (arith, count-le-length c.self.inside.rest.items, c.self.invariant, c.self.inside.rest.ok, c.in_ok-reserve.ensures.ok)
