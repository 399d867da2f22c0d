-- The laws of a release.
use Rattle.percpu_core.proofs.EveryRun.{released_only_at_zero, released_once_per_kill, released_once_in_a_life}
use Rattle.percpu_core.proofs.interleavings.a_release_is_the_last.Goals as goal

pub returns-clause-at_zero : goal.returns-clause-at_zero
returns-clause-at_zero c = released_only_at_zero

pub returns-clause-once : goal.returns-clause-once
returns-clause-once c = released_once_per_kill

pub returns-clause-in_a_life : goal.returns-clause-in_a_life
returns-clause-in_a_life c = released_once_in_a_life
