use Rattle.percpu_gate.proofs.Grounds.{read_again}
use Rattle.percpu_gate.proofs.pass.Pass.word.Goals as goal

pub returns-clause-same : goal.returns-clause-same
returns-clause-same g c = rw (← c.self.view_is) (λ v has. read_again _ _ c.args.k _ v (rw (← c.self.view_is) at c.requires.held) c.load_word.ensures.step has)
