use Rattle.std.proofs.Common.{ℕ, ◌+◌, ◌-◌, ◌∷◌, List, subst, sym, arith, suc}
use Rattle.queue_limits.specs.Pieces.{IsSplit}
use Rattle.queue_limits.specs.Greedy.{first_piece, greedy_pieces}
use Rattle.queue_limits.proofs.Splits.{greedy_splits, greedy_some}
use Rattle.queue_limits.proofs.limits.Limits.next_piece.Goals as goal

pub returns : goal.returns
returns c =
    let P : List ℕ → Type 0 = λ ns. IsSplit c.args.self.now c.args.start c.args.left ns in
    let Q : ℕ → Type 0 = λ x. IsSplit c.args.self.now c.args.start c.args.left (x ∷ greedy_pieces c.args.left c.args.self.now (c.args.start + first_piece c.args.self.now c.args.start c.args.left) (c.args.left - first_piece c.args.self.now c.args.start c.args.left)) in
    record {
      first = (
        greedy_pieces c.args.left c.args.self.now (c.args.start + first_piece c.args.self.now c.args.start c.args.left) (c.args.left - first_piece c.args.self.now c.args.start c.args.left),
        subst Q (sym c.first_piece.ensures.length)
            (subst P (greedy_some c.args.left c.args.self.now c.args.start c.args.left (omega arith))
            (greedy_splits (suc c.args.left) c.args.self.now c.args.start c.args.left c.first_piece.ensures.allowed.some_sector (omega arith))),
      );
    }
