-- The lemmas of these names.
use Rattle.percpu_core.proofs.Fitting.{pass_steps_fit, control_steps_fit}
use Rattle.percpu_core.proofs.interleavings.each_step_fits.Goals as goal

pub returns-clause-passes : goal.returns-clause-passes
returns-clause-passes c = pass_steps_fit

pub returns-clause-control : goal.returns-clause-control
returns-clause-control c = control_steps_fit
