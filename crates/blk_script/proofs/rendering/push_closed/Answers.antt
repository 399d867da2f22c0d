use Rattle.std.proofs.Common.{◌+◌, ◌∷◌, [], ap, ◌∙◌, take, get_or}
use Rattle.std.proofs.lemmas.List.{take_more}
use Rattle.blk_script.specs.Texts.{run_text}
use Rattle.blk_script.specs.Closed.{HasGrown, closed_text}
use Rattle.blk_script.proofs.ClosedRuns.{closed_text-push}
use Rattle.blk_script.proofs.Grown.{grown_by, grown_more, on_err}
use Rattle.blk_script.proofs.Joins.{append-three}
use Rattle.blk_script.proofs.rendering.push_closed.Goals as goal

pub loop-run-preserved : goal.loop-run-preserved
loop-run-preserved c =
    let runs = c.args.runs.now in
    let index = c.loop-run.run-index in
    append-three c.push_text.new.out.items c.push_run.new.out.items c.loop-run.out.items c.args.out.now.items (closed_text (take index runs)) (closed_text (take (index + 1) runs)) (run_text (get_or runs index (0, 0))) (44 ∷ [])
    c.in_ok-push_text.ensures.ok c.in_ok-push_run.ensures.ok c.loop-run.invariant
    (ap closed_text (take_more runs index (0, 0) c.loop-run-test.true) ∙ closed_text-push (take index runs) (get_or runs index (0, 0)))

pub returns-in_err-push_run-clause-err : goal.returns-in_err-push_run-clause-err
returns-in_err-push_run-clause-err c =
    let old = c.args.out.now.items in
    let new = c.push_run.new.out.items in
    on_err c.from_residual.result (HasGrown old new)
    (grown_more old c.loop-run.out.items new (closed_text (take c.loop-run.run-index c.args.runs.now)) c.loop-run.invariant c.in_err-push_run.ensures.err)

pub returns-in_err-push_text-clause-err : goal.returns-in_err-push_text-clause-err
returns-in_err-push_text-clause-err c =
    let old = c.args.out.now.items in
    let new = c.push_text.new.out.items in
    on_err c.from_residual-in_err-push_text.result (HasGrown old new)
    (grown_more old c.loop-run.out.items new (closed_text (take c.loop-run.run-index c.args.runs.now)) c.loop-run.invariant
    (grown_by c.loop-run.out.items c.push_run.new.out.items new (run_text (get_or c.args.runs.now c.loop-run.run-index (0, 0))) c.in_ok-push_run.ensures.ok c.in_err-push_text.ensures.err))
