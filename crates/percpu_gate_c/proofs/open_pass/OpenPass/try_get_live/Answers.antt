use Rattle.std.proofs.Common.{rules, sym, ◌∙◌}
use Rattle.percpu_gate_c.proofs.Tries.{got_live}
use Rattle.percpu_gate_c.proofs.open_pass.OpenPass.try_get_live.Goals as goal

pub returns : goal.returns
returns c = let e = c.try_get_live.ensures in (search rules, got_live (sym c.self.view_is) (c.deref.ensures ∙ sym c.self.invariant) e.own e.leaves e.steps e.finds e.floor e.live e.meets e.times e.ground e.later)
