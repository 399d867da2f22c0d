use Rattle.std.proofs.Common.{sym, ◌∙◌}
use Rattle.percpu_gate_c.proofs.Looks.{looked_zero}
use Rattle.percpu_gate_c.proofs.open_pass.OpenPass.is_zero.Goals as goal

pub returns : goal.returns
returns c = looked_zero (sym c.self.view_is) (c.deref.ensures ∙ sym c.self.invariant) c.is_zero.ensures.own c.is_zero.ensures.step c.is_zero.ensures.steps c.is_zero.ensures.leaves c.is_zero.ensures.times c.is_zero.ensures.ground
