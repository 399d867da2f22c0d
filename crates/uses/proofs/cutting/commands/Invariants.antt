use Rattle.std.proofs.Common.{◌≡◌, ◌++◌, ◌+◌, sum}
use Rattle.queue_limits.specs.Pieces.{IsSplit}
use Rattle.uses.specs.Commands.{lengths, AreInARow}
use Rattle.uses.proofs.cutting.commands.Given as goal

-- what was made, and the pieces that are left, are together those of the range
abbrev pub invariant-loop-sectors : goal.invariant-loop-sectors
invariant-loop-sectors l =
    (goal.iterator-loop-sectors).can_next l.sectors-iterator ×
    (goal.iterator-loop-sectors).is_finite l.sectors-iterator ×
    AreInARow l.fn.start l.made.items ×
    (l.first ≡ l.fn.start + sum (lengths l.made.items)) ×
    IsSplit l.fn.limits l.fn.start l.fn.count (lengths l.made.items ++ l.sectors-iterator)
