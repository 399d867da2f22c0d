-- So far each try was interrupted: nothing was taken, the counts grew with each, and nothing broke.
use Rattle.std.proofs.Common.{◌≡◌, ◌<◌, ◌≤◌}
use Rattle.std.specs.Io.KnownBytes.{Keeps}
use Rattle.counted_io.specs.Failures.{FailedTimes, HasFailed}
use Rattle.counted_io.proofs.output.write_piece.Given as goal

abbrev pub invariant-loop : goal.invariant-loop
invariant-loop g l =
    Keeps (g.W.Write.contents l.initial.writer.inner) (g.W.Write.contents l.writer.inner)
    × (l.initial.writer.failures ≤ l.writer.failures)
    × (0 < l.counter → HasFailed l.initial.writer l.writer)
    × FailedTimes l.counter l.initial.writer l.writer
    × (l.writer.breaks ≡ l.initial.writer.breaks)
    × (l.counter ≤ l.writer.in_row)
