use Rattle.std.proofs.Common.{◌+◌, ◌≤◌, ◌∙◌, length, arith, length-take, length-drop}
use Rattle.counted_io.proofs.Sending.{sent_more}
use Rattle.counted_io.proofs.output.write_whole.Goals as goal

pub loop-written-preserved : goal.loop-written-preserved
loop-written-preserved g c =
    let within : c.loop-written.written + c.in-Ok.count ≤ length c.args.text.now =
    omega (arith, simp (length-take, length-drop) at c.in-Ok.ensures.bound) in
    let counts : c.args.writer.now.failures ≤ c.write_piece.new.writer.failures = omega (arith, c.loop-written.invariant.2, c.in-Ok.ensures.counts) in
    (sent_more _ _ _ c.args.text.now c.loop-written.written c.in-Ok.count c.loop-written.invariant.0 c.in-Ok.ensures.appended, within, counts, c.in-Ok.ensures.whole ∙ c.loop-written.invariant.3)
