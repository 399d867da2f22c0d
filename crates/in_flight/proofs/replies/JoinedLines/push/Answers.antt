use Rattle.std.proofs.Common.{◌∙◌, ap, ◌++◌, ◌∷◌, []}
use Rattle.in_flight.proofs.TextLines.{one_more}
use Rattle.in_flight.proofs.replies.JoinedLines.push.Goals as goal

pub returns-clause-ok : goal.returns-clause-ok
returns-clause-ok c =
    rw (c.push_reserved.ensures.items, c.in_ok-extend_from_slice.ensures.items, c.reserve.ensures.items)
    (one_more c.self.inside.lengths.items c.self.inside.text.items c.args.line.now c.self.invariant ∙ ap (λ ls. ls ++ c.args.line.now ∷ []) c.self.view_is)
