use Rattle.std.proofs.Common.{◌≡◌, ◌∷◌, ◌∙◌, sym, ap, arith, length, ◌+◌, ℕ, ◌-◌}
use Rattle.queue_limits.specs.Greedy.{greedy_pieces}
use Rattle.queue_limits.proofs.Splits.{greedy_next}
use Rattle.queue_limits.proofs.pieces.PiecesIterator.next.Goals as goal

pub returns-clause-steps : goal.returns-clause-steps
returns-clause-steps c =
    let i = c.self.inside in
    let from : c.from.result ≡ c.first_piece-length.result = cc in
    sym c.self.view_is
    ∙ greedy_next c.self.inside.limits c.self.inside.start c.self.inside.left c.first_piece-length.result c.self.invariant.0.some_sector (omega arith) c.first_piece-length.ensures.length
    ∙ ap (λ (x : ℕ). c.first_piece-length.result ∷ greedy_pieces (c.self.inside.left - c.first_piece-length.result) c.self.inside.limits (c.self.inside.start + x) (c.self.inside.left - c.first_piece-length.result)) (sym from)

pub returns-clause-goes : goal.returns-clause-goes
returns-clause-goes c =
    let e = returns-clause-steps c in
    record { on = λ f. (tt, tt, omega (arith, ap length e)); keeps = tt; rests = λ f. tt }
