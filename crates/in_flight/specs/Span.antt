-- The disk of a run while requests of its script are in flight: they were accepted, and their completions aren't collected yet.
use Rattle.std.specs.Prelude.{◌≡◌, ℕ, ◌+◌, ◌<◌, ◌≤◌, Bool, true, false, List, length, Some}
use Rattle.ram_disk.specs.Disk.{sectors_read}
use Rattle.ram_disk.specs.Writes.{sector_at}
use Rattle.script_meaning.specs.Requests.{accepted_at, drains_at, state_at}
use Rattle.script_meaning.specs.Script.{Meant}
use Rattle.script_meaning.specs.declared.reply.Request.{Request}
use Rattle.script_overlap.specs.Overlap.{HasSector, Clash}

-- the requests in flight come before this position, no line between drains, and no later request clashes with one of them
pub record AreInSpan (script : Meant) (owed : ℕ → Bool) (here : ℕ) : Type 0 where
  pub before : (position : ℕ) → owed position ≡ true → position < here
  pub one_span : (position : ℕ) → owed position ≡ true → (cut : ℕ) → position < cut → cut < here → drains_at script cut ≡ false
  pub apart : (position later : ℕ) (first second : Request) → owed position ≡ true → position < later → later < here
      → accepted_at script position ≡ Some first → accepted_at script later ≡ Some second → Clash first second → ⊥

-- a request clashes with no request in flight
abbrev pub ClashesWithNone : Meant → (ℕ → Bool) → Request → Type 0
ClashesWithNone script owed request = (position : ℕ) (first : Request) → owed position ≡ true → accepted_at script position ≡ Some first → Clash first request → ⊥

-- a write in flight touches the sector
pub record IsAwaited (script : Meant) (owed : ℕ → Bool) (sector : ℕ) : Type 0 where
  pub position : ℕ
  pub request : Request
  pub is_owed : owed position ≡ true
  pub accepted : accepted_at script position ≡ Some request
  pub writes : request.writes ≡ true
  pub inside : HasSector request sector

-- every sector that no write in flight touches is as a single thread has it before the line at this position
pub record IsDiskBut (script : Meant) (owed : ℕ → Bool) (here : ℕ) (disk : List (List ℕ)) : Type 0 where
  pub whole : length disk ≡ script.sectors
  pub others : (sector : ℕ) → (IsAwaited script owed sector → ⊥) → sector_at disk sector ≡ sector_at (state_at script here).disk sector

-- a request that clashes with no request in flight reads what a single thread reads at its line, whichever writes of its span were installed before
abbrev pub ReadsStandInASpan : Type 0
ReadsStandInASpan = (script : Meant) (owed : ℕ → Bool) (here : ℕ) (disk : List (List ℕ)) (request : Request) → ClashesWithNone script owed request
    → IsDiskBut script owed here disk → request.start + request.count ≤ script.sectors
    → sectors_read request.start request.count disk ≡ sectors_read request.start request.count (state_at script here).disk
