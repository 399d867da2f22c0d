use Rattle.std.proofs.Common.{◌≡◌, replicate}
use Rattle.percpu_gate.specs.Seats.{facts_of, fresh_pass}
use Rattle.percpu_gate.proofs.gate.make_passes.Given as goal

-- the control has made as many passes as there are, each of which knows nothing
abbrev pub invariant-loop : goal.invariant-loop
invariant-loop g l = (l.seat ≡ record l.fn.seat { view = record l.fn.seat.view { passes = l.counter } }) × (l.made.items ≡ replicate l.counter (fresh_pass (facts_of l.fn.table)))
