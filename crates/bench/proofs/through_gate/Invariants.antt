use Rattle.std.proofs.Common.{◌≡◌}
use Rattle.percpu_gate.specs.Calls.{holding}
use Rattle.bench.proofs.through_gate.Given as goal

-- the pass is of this gate, and holds nothing between two rounds
abbrev pub invariant-loop : goal.invariant-loop
invariant-loop l = (l.pass.gate ≡ l.fn.gate) × (l.pass.view.standing ≡ holding 0)
