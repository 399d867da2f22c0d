use Rattle.std.proofs.Common.{◌+◌, ◌≤◌, ◌∷◌, [], ◌++◌, length, take, vec_len, vec_capacity}
use Rattle.ram_disk.specs.Runs.{IsRuns, bytes_of_runs}
use Rattle.ram_disk.proofs.run.add_bytes.Given as goal

abbrev pub invariant-loop-next : goal.invariant-loop-next
invariant-loop-next l = record {
  so_far : IsRuns (l.runs.items ++ (l.byte, l.count) ∷ []) (bytes_of_runs l.fn.runs.items ++ take (l.next-index + 1) l.bytes);
  room : vec_len l.runs + length l.bytes ≤ vec_capacity l.runs + l.next-index;
}
