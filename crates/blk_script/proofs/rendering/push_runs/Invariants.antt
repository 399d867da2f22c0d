use Rattle.std.proofs.Common.{◌≡◌, ◌++◌, take}
use Rattle.blk_script.specs.Texts.{runs_text}
use Rattle.blk_script.proofs.rendering.push_runs.Given as goal

abbrev pub invariant-loop-index : goal.invariant-loop-index
invariant-loop-index l = l.out.items ≡ l.fn.out.items ++ runs_text (take l.index l.runs)
