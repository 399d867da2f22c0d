use Rattle.std.proofs.Common.{◌≡◌}
use Rattle.blk_workers.proofs.handing.free_tag.Given as goal

abbrev pub invariant-loop-look : goal.invariant-loop-look
invariant-loop-look g l = (l.source ≡ l.initial.source) × (l.taker ≡ l.initial.taker)
