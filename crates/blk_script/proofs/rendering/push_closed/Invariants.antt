use Rattle.std.proofs.Common.{◌≡◌, ◌++◌, take}
use Rattle.blk_script.specs.Closed.{closed_text}
use Rattle.blk_script.proofs.rendering.push_closed.Given as goal

abbrev pub invariant-loop-run : goal.invariant-loop-run
invariant-loop-run l = l.out.items ≡ l.fn.out.items ++ closed_text (take l.run-index l.runs)
