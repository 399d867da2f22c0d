use Rattle.std.proofs.Common.{◌∙◌, sym, ap, ◌++◌, ◌∷◌, [], arith, take, append_assoc}
use Rattle.in_flight.specs.Table.{joined}
use Rattle.in_flight.proofs.Places.{joined_more}
use Rattle.in_flight.proofs.replies.add_lines.Goals as goal

pub loop-place-preserved : goal.loop-place-preserved
loop-place-preserved c =
    c.in_ok-add_line.ensures ∙ ap (λ t. t ++ joined (c.index.result.now ∷ [])) c.loop-place.invariant
    ∙ append_assoc c.args.text.now.items (joined (take c.loop-place.place c.args.lines.now.items)) (joined (c.index.result.now ∷ []))
    ∙ ap (λ t. c.args.text.now.items ++ t) (sym (joined_more c.args.lines.now.items c.loop-place.place c.index.result.now (omega (arith, c.loop-place-test.true, c.len-place-end.ensures, c.args.lines.now.ok)) c.index.ensures))
