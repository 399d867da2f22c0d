use Rattle.std.proofs.Common.{◌≤◌, take}
use Rattle.blk_script.specs.Machine.{state_of}
use Rattle.script_meaning.specs.Meaning.{start_of}
use Rattle.script_meaning.specs.Queue.{counted}
use Rattle.blk_script.proofs.Replies.{Told}
use Rattle.blk_script.proofs.run.run_alone.Given as goal

abbrev pub invariant-loop-line : goal.invariant-loop-line
invariant-loop-line l = record {
  told : Told (start_of l.script) (take l.line-index l.line-items) l.out.items (state_of l.machine);
  counts : counted l.machine.queue ≤ l.line-index;
}
