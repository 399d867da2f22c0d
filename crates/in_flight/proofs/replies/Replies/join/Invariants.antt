use Rattle.std.proofs.Common.{◌≡◌}
use Rattle.in_flight.proofs.replies.Replies.join.Given as goal

abbrev pub invariant-loop : goal.invariant-loop
invariant-loop l = l.self ≡ l.initial.self
