use Rattle.std.proofs.Common.{ap, sym, subst}
use Rattle.percpu_gate.proofs.ControlGrounds.{looked, found_as_known, finds_zero, zero_when_dead, zero_when_none_out}
use Rattle.percpu_core.specs.declared.control_standing.ControlStanding.{ControlStanding}
use Rattle.percpu_gate.specs.ControlCalls.{IsBetweenCalls}
use Rattle.percpu_gate.proofs.control.Control.is_zero.Goals as goal

pub returns-clause-view : goal.returns-clause-view
returns-clause-view g c = rw (← c.self.view_is) (λ j. record { gate = c.look.ensures.own j; view = looked _ _ _ c.is_zero.result (ap (λ s. s.to_mark) c.self.invariant.0) c.is_zero.ensures c.look.ensures.step j; moves = c.look.ensures.moves j; wants = c.self.inside.wants })

pub returns-clause-found : goal.returns-clause-found
returns-clause-found g c = rw (← c.gate.view_is, ← c.self.view_is) (finds_zero _ _ _ _ c.is_zero.ensures c.look.ensures.step)

pub returns-clause-known : goal.returns-clause-known
returns-clause-known g c = rw (← c.self.view_is) (found_as_known _ _ _ _ c.is_zero.ensures c.look.ensures.step)

pub returns-clause-dead : goal.returns-clause-dead
returns-clause-dead g c = λ set. rw (← c.self.view_is)
    (zero_when_dead _ _ _ c.is_zero.result (subst (λ (s : ControlStanding). IsBetweenCalls s.phase) (sym c.self.invariant.0) c.self.invariant.1) c.is_zero.ensures c.look.ensures.step set)

pub returns-clause-none_out : goal.returns-clause-none_out
returns-clause-none_out g c = rw (← c.self.view_is) (λ none dead. zero_when_none_out _ _ _ c.is_zero.result (ap (λ s. s.to_mark) c.self.invariant.0) c.is_zero.ensures c.look.ensures.step none dead)
