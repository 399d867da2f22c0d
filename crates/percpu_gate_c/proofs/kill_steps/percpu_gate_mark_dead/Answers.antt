use Rattle.std.proofs.Common.{rules}
use Rattle.percpu_gate_c.proofs.Closed.{closed_begins}
use Rattle.percpu_gate_c.proofs.kill_steps.percpu_gate_mark_dead.Goals as goal

pub returns-in_default : goal.returns-in_default
returns-in_default c = closed_begins (search rules) (search rules) (search rules) (search rules)
