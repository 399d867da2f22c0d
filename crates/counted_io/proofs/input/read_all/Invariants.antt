-- The input so far is what the reader gave.
use Rattle.std.proofs.Common.{◌≡◌, ◌-◌, ◌≤◌, vec_len}
use Rattle.std.specs.Io.KnownBytes.{Consumes}
use Rattle.counted_io.proofs.input.read_all.Given as goal

abbrev pub invariant-loop-input : goal.invariant-loop-input
invariant-loop-input g l =
    Consumes (g.R.Read.remaining l.initial.reader.inner) (g.R.Read.remaining l.reader.inner) l.input.items
    × (vec_len l.input ≤ l.most)
    × (l.initial.reader.failures ≤ l.reader.failures)
    × (l.reader.breaks ≡ l.initial.reader.breaks)

abbrev pub decreases-loop-input : goal.decreases-loop-input
decreases-loop-input g l = l.most - vec_len l.input
