use Rattle.in_flight.proofs.Tables.{first, line_taken, submitted, collected, all_there}
use Rattle.in_flight.proofs.Ends.{are_joined}
use Rattle.in_flight.proofs.laws.answers_come_in_any_order.Goals as goal

pub returns : goal.returns
returns c = record { start = first; line = line_taken; request = submitted; answer = collected; end = all_there; replies = are_joined }
