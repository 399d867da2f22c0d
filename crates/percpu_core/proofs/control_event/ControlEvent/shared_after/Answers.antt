-- Setting DEAD leaves the other parts of the word.
use Rattle.std.proofs.Common.{◌^◌, ◌<◌, arith}
use Rattle.percpu_words.proofs.SharedWordSteps.{parts-or_dead}
use Rattle.percpu_core.proofs.control_event.ControlEvent.shared_after.Goals as goal

pub returns-in-MarkDead : goal.returns-in-MarkDead
returns-in-MarkDead c = let small : c.args.word < 2 ^ 64 = omega arith in rw c.in-MarkDead.is (parts-or_dead c.args.word small)
