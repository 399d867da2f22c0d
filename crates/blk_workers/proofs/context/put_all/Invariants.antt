use Rattle.std.proofs.Common.{◌≡◌, length}
use Rattle.blk_workers.proofs.context.put_all.Given as goal

abbrev pub invariant-loop-tag : goal.invariant-loop-tag
invariant-loop-tag g l =
    (goal.iterator-loop-tag g).can_next l.tag-iterator × (goal.iterator-loop-tag g).is_finite l.tag-iterator
    × (l.count ≡ record { queue = l.free.id; count = length l.yielded })
