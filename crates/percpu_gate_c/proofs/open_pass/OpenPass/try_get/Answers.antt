use Rattle.std.proofs.Common.{rules, sym, ◌∙◌}
use Rattle.percpu_gate_c.proofs.Tries.{got}
use Rattle.percpu_gate_c.proofs.open_pass.OpenPass.try_get.Goals as goal

pub returns : goal.returns
returns c = let e = c.try_get.ensures in (search rules, got (sym c.self.view_is) (c.deref.ensures ∙ sym c.self.invariant) e.own e.leaves e.steps e.finds e.again e.meets e.times e.both e.ground)
