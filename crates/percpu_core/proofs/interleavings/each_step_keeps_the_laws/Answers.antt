-- The lemmas of these names.
use Rattle.percpu_core.proofs.Opening.{alone_lawful}
use Rattle.percpu_core.proofs.SeatSteps.{splitting_keeps_laws, pass_steps_keep_laws, control_steps_keep_laws, known_zero_is_set, joining_keeps_laws}
use Rattle.percpu_core.proofs.interleavings.each_step_keeps_the_laws.Goals as goal

pub returns-clause-opening : goal.returns-clause-opening
returns-clause-opening c = alone_lawful

pub returns-clause-splitting : goal.returns-clause-splitting
returns-clause-splitting c = splitting_keeps_laws

pub returns-clause-passes : goal.returns-clause-passes
returns-clause-passes c = pass_steps_keep_laws

pub returns-clause-control : goal.returns-clause-control
returns-clause-control c = control_steps_keep_laws

pub returns-clause-known_zero : goal.returns-clause-known_zero
returns-clause-known_zero c = known_zero_is_set

pub returns-clause-joining : goal.returns-clause-joining
returns-clause-joining c = joining_keeps_laws
