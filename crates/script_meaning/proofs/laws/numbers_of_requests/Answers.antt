use Rattle.script_meaning.proofs.Numbers.{in_order, each_number}
use Rattle.script_meaning.proofs.laws.numbers_of_requests.Goals as goal

pub returns-clause-order : goal.returns-clause-order
returns-clause-order c = in_order

pub returns-clause-each : goal.returns-clause-each
returns-clause-each c = each_number
