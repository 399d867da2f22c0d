use Rattle.std.proofs.Common.{◌∙◌, sym, arith}
use Rattle.queue_limits.proofs.Splits.{greedy_splits, one_list}
use Rattle.queue_limits.proofs.laws.one_split.Goals as goal

pub returns-clause-some : goal.returns-clause-some
returns-clause-some c = λ bounds start count allowed. greedy_splits count bounds start count allowed.some_sector (omega arith)

pub returns-clause-only : goal.returns-clause-only
returns-clause-only c = λ bounds start count a b x y.
    one_list bounds start a b (x.joined ∙ sym y.joined) x.non_empty y.non_empty x.cut y.cut
