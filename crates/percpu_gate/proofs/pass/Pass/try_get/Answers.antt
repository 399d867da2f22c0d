use Rattle.std.proofs.Common.{ap}
use Rattle.percpu_gate.proofs.Tries.{try_finds, try_leaves, given_again, refused_found}
use Rattle.percpu_gate.proofs.CallSteps.{try_steps}
use Rattle.percpu_gate.proofs.TryEnds.{fields_kept}
use Rattle.percpu_gate.proofs.TryMeets.{try_meets, zero_times, both_times}
use Rattle.percpu_gate.specs.Calls.{has_zero}
use Rattle.percpu_gate.proofs.pass.Pass.try_get.Goals as goal

pub returns-clause-leaves : goal.returns-clause-leaves
returns-clause-leaves g c = rw (← c.self.view_is) (try_leaves _ _ _ _ _ c.count_try-is_given.ensures.counts (ap (λ s. s.view) c.end_try-answer.ensures.view) c.end_try-answer.ensures.answer)

pub returns-clause-steps : goal.returns-clause-steps
returns-clause-steps g c = rw (← c.self.view_is) (try_steps _ _ _ _ _ _ _ c.count_try-is_given.ensures.steps c.end_try-answer.ensures.answer c.end_try-answer.ensures.steps)

pub returns-clause-finds : goal.returns-clause-finds
returns-clause-finds g c = rw (← c.gate.view_is, ← c.self.view_is) (try_finds _ _ _ _ c.count_try-is_given.ensures.counts c.end_try-answer.ensures.answer)

pub returns-clause-again : goal.returns-clause-again
returns-clause-again g c = rw (← c.self.view_is) (given_again _ _ (try_finds _ _ _ _ c.count_try-is_given.ensures.counts c.end_try-answer.ensures.answer))

pub returns-clause-ground : goal.returns-clause-ground
returns-clause-ground g c = refused_found _ _ _ _ _ c.count_try-is_given.ensures.counts (ap (λ s. s.view) c.end_try-answer.ensures.view) c.end_try-answer.ensures.answer

pub returns-clause-meets : goal.returns-clause-meets
returns-clause-meets g c = rw (← c.gate.view_is, ← c.self.view_is) (try_meets has_zero _ _ _ _ _ c.count_try-is_given.ensures.counts.meets (ap (λ s. s.view) c.end_try-answer.ensures.view) c.end_try-answer.ensures.answer)

pub returns-clause-times : goal.returns-clause-times
returns-clause-times g c = rw (← c.self.view_is) (zero_times _ _ _ (try_meets has_zero _ _ _ _ _ c.count_try-is_given.ensures.counts.meets (ap (λ s. s.view) c.end_try-answer.ensures.view) c.end_try-answer.ensures.answer))

pub returns-clause-both : goal.returns-clause-both
returns-clause-both g c = rw (← c.self.view_is) (both_times _ _ _ (try_meets has_zero _ _ _ _ _ c.count_try-is_given.ensures.counts.meets (ap (λ s. s.view) c.end_try-answer.ensures.view) c.end_try-answer.ensures.answer))

pub invariant_of-self : goal.invariant_of-self
invariant_of-self g c = rw (c.count_releases.ensures) (fields_kept _ _ c.end_try-answer.result _ _ _ _ _ (try_leaves _ _ _ _ _ c.count_try-is_given.ensures.counts (ap (λ s. s.view) c.end_try-answer.ensures.view) c.end_try-answer.ensures.answer)
    c.self.invariant.0 c.self.invariant.2 c.self.invariant.3 c.self.invariant.4 (rw (← c.self.view_is) at c.requires.room) c.end_try-answer.ensures.few c.taken.ensures c.released.ensures)
