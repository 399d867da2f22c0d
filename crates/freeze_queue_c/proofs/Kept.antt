-- A freezer stays one of its queue, with as many tags.
use Rattle.std.proofs.Common.{◌≡◌, Bool, true, false, ◌==◌, if◌then◌else◌, refl}
use Rattle.percpu_gate.specs.declared.tried.Put.{Put}
use Rattle.queue_core.specs.Queue.{FreezerFacts, after_freeze, after_thaw}

-- what it keeps
abbrev pub Keeps : FreezerFacts → FreezerFacts → Type 0
Keeps old new = (new.queue ≡ old.queue) × (new.tags ≡ old.tags)

by_case : (old a b : FreezerFacts) (test : Bool) → Keeps old a → Keeps old b → Keeps old (if test then a else b)
by_case old a b true first second = first
by_case old a b false first second = second

pub freeze_keeps : (put : Put) (f : FreezerFacts) → Keeps f (after_freeze put f)
freeze_keeps put f = by_case f _ _ (f.depth == 0) (refl, refl) (refl, refl)

pub thaw_keeps : (at_zero : Bool) (f : FreezerFacts) → Keeps f (after_thaw at_zero f)
thaw_keeps at_zero f = by_case f _ _ (f.depth == 1) (refl, refl) (refl, refl)
