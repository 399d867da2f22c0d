use Rattle.std.proofs.Common.{◌≡◌, ◌∙◌, ap, arith, ◌+◌, ◌++◌, ◌∷◌, [], ℕ, take, decimal}
use Rattle.blk_script.specs.Texts.{pieces_text}
use Rattle.blk_script.proofs.Joins.{join-one, join-more, append-three, append-two}
use Rattle.blk_script.proofs.rendering.push_pieces.Goals.{then-index-gt0+in_ok-push_text, else-index-gt0}
use Rattle.blk_script.proofs.rendering.push_pieces.Goals as goal

pub loop-index-preserved : goal.loop-index-preserved
loop-index-preserved c =
    elim c.if-index-gt0.branch [
      | then-index-gt0+in_ok-push_text w ↦
          let mid : c.if-index-gt0.out.items ≡ c.loop-index.out.items ++ 43 ∷ [] = cc (w.in_ok-push_text.ensures.ok) in
          append-three c.push_number.new.out.items c.if-index-gt0.out.items c.loop-index.out.items c.args.out.now.items (pieces_text (take c.loop-index.index c.args.pieces.now)) (pieces_text (take (c.loop-index.index + 1) c.args.pieces.now)) (43 ∷ []) _
          c.in_ok-push_number.ensures.ok mid c.loop-index.invariant (join-more 43 decimal c.args.pieces.now c.loop-index.index 0 w.if-index-gt0.true c.loop-index-test.true ∙ ap (λ (n : ℕ). (pieces_text (take c.loop-index.index c.args.pieces.now) ++ 43 ∷ []) ++ decimal n) (cc))
      | else-index-gt0 w ↦
          let mid : c.if-index-gt0.out.items ≡ c.args.out.now.items ++ pieces_text (take c.loop-index.index c.args.pieces.now) = cc (w.out-is, c.loop-index.invariant) in
          append-two c.push_number.new.out.items c.if-index-gt0.out.items c.args.out.now.items (pieces_text (take c.loop-index.index c.args.pieces.now)) (pieces_text (take (c.loop-index.index + 1) c.args.pieces.now)) _
          c.in_ok-push_number.ensures.ok mid (join-one 43 decimal c.args.pieces.now c.loop-index.index 0 (omega (arith, w.if-index-gt0.false)) c.loop-index-test.true ∙ ap (λ (n : ℕ). pieces_text (take c.loop-index.index c.args.pieces.now) ++ decimal n) (cc))
    ]
