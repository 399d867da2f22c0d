-- The sectors that a span's requests read and write, against one more request.
use Rattle.std.specs.Prelude.{◌≡◌, ℕ, ◌||◌, Bool, true, false, List, length, Option, Some, None}
use Rattle.script_overlap.specs.Overlap.{HasSector}
use Rattle.script_overlap.specs.Span.{is_touched, IsClear, Adds}
use Rattle.script_meaning.specs.declared.reply.Outcome.{Outcome}
use Rattle.script_meaning.specs.declared.reply.Outcome.TheVariants.{Accepted, Drained, Replied}
use Rattle.script_meaning.specs.declared.reply.Request.{Request}

-- for each sector, whether a request reads it, and whether one writes it
pub record Marks : Type 0 where
  pub reads : List Bool
  pub writes : List Bool

-- the sectors that are written, or those that are read
abbrev pub marks_of : Marks → Bool → List Bool
marks_of span true = span.writes
marks_of span false = span.reads

-- these are marks on a disk of this many sectors
pub record OfSectors (span : Marks) (sectors : ℕ) : Type 0 where
  pub reads : length span.reads ≡ sectors
  pub writes : length span.writes ≡ sectors

abbrev pub IsEmpty : Marks → Type 0
IsEmpty span = (writes : Bool) → IsClear (marks_of span writes)

-- a sector of the request is touched, and this request or one that touched it writes
pub record Conflicts (span : Marks) (request : Request) : Type 0 where
  pub sector : ℕ
  pub inside : HasSector request sector
  pub writes : Bool
  pub touched : is_touched (marks_of span writes) sector ≡ true
  pub one_writes : writes || request.writes ≡ true

abbrev pub ConflictsNot : Marks → Request → Type 0
ConflictsNot span request = (sector : ℕ) (writes : Bool) → HasSector request sector → writes || request.writes ≡ true → is_touched (marks_of span writes) sector ≡ false

-- the request's sectors are touched, by reads or by writes as the request is, and nothing else changes
pub record Takes (old new : Marks) (request : Request) : Type 0 where
  pub adds : Adds (marks_of old request.writes) (marks_of new request.writes) request.start request.count
  pub keeps : (writes : Bool) → (writes ≡ request.writes → false ≡ true) → marks_of new writes ≡ marks_of old writes

-- the request is the first of a span
pub record Begins (new : Marks) (request : Request) : Type 0 where
  pub empty : Marks
  pub is_empty : IsEmpty empty
  pub takes : Takes empty new request

-- a span after a line with this outcome, and the request that had to wait for a drain, if there was one, which begins a new span
abbrev pub IsNext : Marks → Outcome → Option Request → Marks → Type 0
IsNext old (Accepted request) None new = ConflictsNot old request × Takes old new request
IsNext old (Accepted request) (Some waits) new = (waits ≡ request) × Conflicts old request × Begins new request
IsNext old (Drained reply) waits new = (waits ≡ None) × IsEmpty new
IsNext old (Replied reply) waits new = (waits ≡ None) × (new ≡ old)
