use Rattle.std.proofs.Common.{◌≡◌, arith, ◌+◌, ◌++◌, ◌∷◌, [], take}
use Rattle.blk_script.specs.Closed.{HasGrown}
use Rattle.blk_script.specs.Texts.{runs_text, run_text}
use Rattle.blk_script.proofs.Grown.{grown_by, grown_more, on_err}
use Rattle.blk_script.proofs.Joins.{join-one, join-more, append-three, append-two}
use Rattle.blk_script.proofs.rendering.push_runs.Goals.{then-index-gt0+in_ok-push_text, else-index-gt0}
use Rattle.blk_script.proofs.rendering.push_runs.Goals as goal

pub loop-index-preserved : goal.loop-index-preserved
loop-index-preserved c =
    elim c.if-index-gt0.branch [
      | then-index-gt0+in_ok-push_text w ↦
          let mid : c.if-index-gt0.out.items ≡ c.loop-index.out.items ++ 44 ∷ [] = cc (w.in_ok-push_text.ensures.ok) in
          append-three c.push_run.new.out.items c.if-index-gt0.out.items c.loop-index.out.items c.args.out.now.items (runs_text (take c.loop-index.index c.args.runs.now)) (runs_text (take (c.loop-index.index + 1) c.args.runs.now)) (44 ∷ []) _
          c.in_ok-push_run.ensures.ok mid c.loop-index.invariant (join-more 44 run_text c.args.runs.now c.loop-index.index (0, 0) w.if-index-gt0.true c.loop-index-test.true)
      | else-index-gt0 w ↦
          let mid : c.if-index-gt0.out.items ≡ c.args.out.now.items ++ runs_text (take c.loop-index.index c.args.runs.now) = cc (w.out-is, c.loop-index.invariant) in
          append-two c.push_run.new.out.items c.if-index-gt0.out.items c.args.out.now.items (runs_text (take c.loop-index.index c.args.runs.now)) (runs_text (take (c.loop-index.index + 1) c.args.runs.now)) _
          c.in_ok-push_run.ensures.ok mid (join-one 44 run_text c.args.runs.now c.loop-index.index (0, 0) (omega (arith, w.if-index-gt0.false)) c.loop-index-test.true)
    ]

pub returns-in_err-push_text-clause-err : goal.returns-in_err-push_text-clause-err
returns-in_err-push_text-clause-err c =
    let old = c.args.out.now.items in
    let new = c.push_text.new.out.items in
    on_err c.from_residual.result (HasGrown old new)
    (grown_by old c.loop-index.out.items new (runs_text (take c.loop-index.index c.args.runs.now)) c.loop-index.invariant c.in_err-push_text.ensures.err)

pub returns-in_err-push_run-clause-err : goal.returns-in_err-push_run-clause-err
returns-in_err-push_run-clause-err c =
    let old = c.args.out.now.items in
    let told = runs_text (take c.loop-index.index c.args.runs.now) in
    let new = c.push_run.new.out.items in
    on_err c.from_residual-in_err-push_run.result (HasGrown old new)
    (elim c.if-index-gt0.branch [
      | then-index-gt0+in_ok-push_text w ↦
          let mid : c.if-index-gt0.out.items ≡ c.loop-index.out.items ++ 44 ∷ [] = cc (w.in_ok-push_text.ensures.ok) in
          grown_more old c.loop-index.out.items new told c.loop-index.invariant (grown_more c.loop-index.out.items c.if-index-gt0.out.items new (44 ∷ []) mid c.in_err-push_run.ensures.err)
      | else-index-gt0 w ↦
          let mid : c.if-index-gt0.out.items ≡ old ++ told = cc (w.out-is, c.loop-index.invariant) in
          grown_more old c.if-index-gt0.out.items new told mid c.in_err-push_run.ensures.err
    ])
