use Rattle.std.proofs.Common.{ap, arith}
use Rattle.percpu_gate.proofs.Tries.{live_try_finds, live_try_leaves, live_refused_found, floor_after_try, given_live, given_later}
use Rattle.percpu_gate.proofs.CallSteps.{try_steps}
use Rattle.percpu_gate.proofs.TryEnds.{fields_kept}
use Rattle.percpu_gate.proofs.TryMeets.{try_meets, dead_times}
use Rattle.percpu_gate.specs.Calls.{has_dead}
use Rattle.percpu_gate.proofs.pass.Pass.try_get_live.Goals as goal

pub returns-clause-leaves : goal.returns-clause-leaves
returns-clause-leaves g c = rw (← c.self.view_is) (live_try_leaves _ _ _ _ _ _ c.count_live-is_given.ensures.counts (ap (λ s. s.view) c.end_try-answer.ensures.view) c.end_try-answer.ensures.answer)

pub returns-clause-steps : goal.returns-clause-steps
returns-clause-steps g c = rw (← c.self.view_is) (try_steps _ _ _ _ _ _ _ c.count_live-is_given.ensures.steps c.end_try-answer.ensures.answer c.end_try-answer.ensures.steps)

pub returns-clause-finds : goal.returns-clause-finds
returns-clause-finds g c = rw (← c.gate.view_is, ← c.self.view_is) (live_try_finds _ _ _ _ _ c.count_live-is_given.ensures.counts c.end_try-answer.ensures.answer)

pub returns-clause-floor : goal.returns-clause-floor
returns-clause-floor g c = rw (← c.self.view_is) (floor_after_try _ _ _ _ _ _ c.count_live-is_given.ensures.counts (ap (λ s. s.view) c.end_try-answer.ensures.view) c.end_try-answer.ensures.answer)

pub returns-clause-live : goal.returns-clause-live
returns-clause-live g c = rw (← c.self.view_is) (given_live _ _ _ _ _ _ c.count_live-is_given.ensures.counts (ap (λ s. s.view) c.end_try-answer.ensures.view) c.end_try-answer.ensures.answer)

pub returns-clause-later : goal.returns-clause-later
returns-clause-later g c = rw (← c.self.view_is) (given_later _ _ _ _ (omega (arith, c.self.invariant.2, c.self.invariant.3))
    (floor_after_try _ _ _ _ _ _ c.count_live-is_given.ensures.counts (ap (λ s. s.view) c.end_try-answer.ensures.view) c.end_try-answer.ensures.answer))

pub returns-clause-ground : goal.returns-clause-ground
returns-clause-ground g c = live_refused_found _ _ _ _ _ _ c.count_live-is_given.ensures.counts (ap (λ s. s.view) c.end_try-answer.ensures.view) c.end_try-answer.ensures.answer

pub returns-clause-meets : goal.returns-clause-meets
returns-clause-meets g c = rw (← c.gate.view_is, ← c.self.view_is) (try_meets has_dead _ _ _ _ _ c.count_live-is_given.ensures.counts.meets (ap (λ s. s.view) c.end_try-answer.ensures.view) c.end_try-answer.ensures.answer)

pub returns-clause-times : goal.returns-clause-times
returns-clause-times g c = rw (← c.self.view_is) (dead_times _ _ _ (try_meets has_dead _ _ _ _ _ c.count_live-is_given.ensures.counts.meets (ap (λ s. s.view) c.end_try-answer.ensures.view) c.end_try-answer.ensures.answer))

pub invariant_of-self : goal.invariant_of-self
invariant_of-self g c = rw (c.count_releases.ensures) (fields_kept _ _ c.end_try-answer.result _ _ _ _ _ (live_try_leaves _ _ _ _ _ _ c.count_live-is_given.ensures.counts (ap (λ s. s.view) c.end_try-answer.ensures.view) c.end_try-answer.ensures.answer)
    c.self.invariant.0 c.self.invariant.2 c.self.invariant.3 c.self.invariant.4 (rw (← c.self.view_is) at c.requires.room) c.end_try-answer.ensures.few c.taken.ensures c.released.ensures)
