use Rattle.std.proofs.Common.{rules, sym, ◌∙◌}
use Rattle.percpu_gate_c.proofs.Looks.{read_word}
use Rattle.percpu_gate_c.proofs.open_pass.OpenPass.word.Goals as goal

pub returns : goal.returns
returns c = (search rules, read_word (sym c.self.view_is) (c.deref.ensures ∙ sym c.self.invariant) c.word.ensures.own c.word.ensures.step c.word.ensures.steps c.word.ensures.view c.word.ensures.same)
