-- The points that a run passes.
use Rattle.std.specs.Prelude.{◌≡◌, ℕ, ◌+◌, ◌-◌, ◌<◌, ◌^◌, ◌⊎◌, true, length, zero, suc}
use Rattle.script_meaning.specs.Requests.{accepted_before, drains_at}
use Rattle.script_meaning.specs.Script.{Meant}
use Rattle.script_overlap.specs.Ordered.{IsOrdered}
use Rattle.blk_workers.specs.declared.points.Point.{Point}

-- the request of this number was at this point
pub record PassedFacts : Type 0 where
  pub number : ℕ
  pub point : Point

abbrev pub at_point : ℕ → Point → PassedFacts
at_point number point = record { number = number; point = point }

-- how many points of drains were passed, and how many requests were accepted before the last
pub record DrainFacts : Type 0 where
  pub count : ℕ
  pub after : ℕ

-- no drain has been passed
abbrev pub none_passed : DrainFacts
none_passed = record { count = 0; after = 0 }

-- one more was passed, after this many requests; the count grows unless it is the greatest u64 already
pub record AddsOne (after : ℕ) (old new : DrainFacts) : Type 0 where
  pub is_last : new.after ≡ after
  pub one_more : old.count < 2 ^ 64 - 1 → new.count ≡ old.count + 1

-- the line at a position drains the queue, by its meaning or because it is an ordered request
abbrev pub DrainsAt : Meant → ℕ → Type 0
DrainsAt script position = (drains_at script position ≡ true) ⊎ IsOrdered script position

-- the point of a drain was passed once if the line at this position drains, and otherwise no point was passed
abbrev pub PassesAt : Meant → ℕ → DrainFacts → DrainFacts → Type 0
PassesAt script position old new =
    (DrainsAt script position × AddsOne (accepted_before script position) old new) ⊎ ((DrainsAt script position → ⊥) × (new ≡ old))

-- the same for an accepted request, which drains the queue if it is ordered
abbrev pub PassesIfOrdered : Meant → ℕ → DrainFacts → DrainFacts → Type 0
PassesIfOrdered script position old new =
    (IsOrdered script position × AddsOne (accepted_before script position) old new) ⊎ ((IsOrdered script position → ⊥) × (new ≡ old))

-- each line before a position passed its point
abbrev pub PassesBefore : Meant → ℕ → DrainFacts → DrainFacts → Type 0
PassesBefore script zero old new = new ≡ old
PassesBefore script (suc position) old new = (there : DrainFacts) × PassesBefore script position old there × PassesAt script position there new

-- a line that failed may have passed the point of its drain already
abbrev pub MayPassAt : Meant → ℕ → DrainFacts → DrainFacts → Type 0
MayPassAt script position old new = (new ≡ old) ⊎ (DrainsAt script position × AddsOne (accepted_before script position) old new)

-- each line passed its point, and then the end passed one, after this many requests
abbrev pub PassesAll : Meant → ℕ → DrainFacts → DrainFacts → Type 0
PassesAll script accepted old new = (before : DrainFacts) × PassesBefore script (length script.lines) old before × AddsOne accepted before new

-- each line before the one that failed passed its point, that line may have, and then the end did
pub record PassesToFault (script : Meant) (accepted : ℕ) (old new : DrainFacts) : Type 0 where
  pub position : ℕ
  pub before : DrainFacts
  pub at_fault : DrainFacts
  pub lines : PassesBefore script position old before
  pub line : MayPassAt script position before at_fault
  pub last : AddsOne accepted at_fault new
