use Rattle.std.proofs.Common.{◌≡◌, ◌-◌, ◌≤◌, replicate}
use lib.Seq.{paste}
use Rattle.ram_disk.specs.Sector.{filled_with}
use Rattle.ram_disk.proofs.disk.fill.Given as goal

abbrev pub invariant-loop-place : goal.invariant-loop-place
invariant-loop-place l = record {
  from : l.fn.start ≤ l.place;
  written : l.kept.items ≡ paste l.initial.kept.items l.fn.start (replicate l.fn.count (filled_with l.fn.byte)) (l.place - l.fn.start);
}
