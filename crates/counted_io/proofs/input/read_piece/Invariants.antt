-- So far each try was interrupted: nothing was taken, the counts grew with each, and nothing broke.
use Rattle.std.proofs.Common.{◌≡◌, ◌<◌, ◌≤◌}
use Rattle.std.specs.Io.KnownBytes.{Keeps}
use Rattle.counted_io.specs.Failures.{FailedTimes, HasFailed}
use Rattle.counted_io.proofs.input.read_piece.Given as goal

abbrev pub invariant-loop : goal.invariant-loop
invariant-loop g l =
    Keeps (g.R.Read.remaining l.initial.reader.inner) (g.R.Read.remaining l.reader.inner)
    × (l.initial.reader.failures ≤ l.reader.failures)
    × (0 < l.counter → HasFailed l.initial.reader l.reader)
    × FailedTimes l.counter l.initial.reader l.reader
    × (l.reader.breaks ≡ l.initial.reader.breaks)
    × (l.counter ≤ l.reader.in_row)
