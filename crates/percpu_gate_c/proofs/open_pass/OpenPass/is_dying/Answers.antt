use Rattle.std.proofs.Common.{sym, ◌∙◌}
use Rattle.percpu_gate_c.proofs.Looks.{looked_dead}
use Rattle.percpu_gate_c.proofs.open_pass.OpenPass.is_dying.Goals as goal

pub returns : goal.returns
returns c = looked_dead (sym c.self.view_is) (c.deref.ensures ∙ sym c.self.invariant) c.is_dying.ensures.own c.is_dying.ensures.step c.is_dying.ensures.steps c.is_dying.ensures.leaves c.is_dying.ensures.times c.is_dying.ensures.ground
