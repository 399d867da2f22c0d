use Rattle.std.proofs.Common.{refl, sym, subst, inl}
use Rattle.percpu_gate.specs.Calls.{HasRead}
use Rattle.uses.proofs.removal.serve.Goals as goal

-- the second read finds in what was read before the value of the first
pub prove-unreachable-requires : goal.prove-unreachable-requires
prove-unreachable-requires c = c.if-prove.true (c.word-still.ensures.same c.word-setting.result (subst (λ p. HasRead 0 c.word-setting.result p.read) (sym c.word-setting.ensures.view) (inl refl)))
