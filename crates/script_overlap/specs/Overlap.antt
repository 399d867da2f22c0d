-- Which requests of a script overlap, and which pair of them is reported.
use Rattle.std.specs.Prelude.{◌≡◌, ℕ, ◌+◌, ◌<◌, ◌≤◌, Bool, true, false, ◌||◌, Some, Result, Ok, Err}
use Rattle.script_meaning.specs.Requests.{accepted_at, drains_at, number_at}
use Rattle.script_meaning.specs.Script.{Meant, orders}
use Rattle.script_meaning.specs.declared.reply.Request.{Request}
use Rattle.line_text.specs.declared.fault.Overlap.{Overlap}
use Rattle.line_text.specs.declared.fault.ScriptFault.{ScriptFault}
use Rattle.line_text.specs.declared.fault.ScriptFault.TheVariants.{Memory, Parse, Overlap as Overlapping}

-- the requests at two positions are in one span if no cut comes after the earlier position, up to and including the later one
abbrev pub InOneSpan : (ℕ → Bool) → ℕ → ℕ → Type 0
InOneSpan cuts earlier later = (cut : ℕ) → earlier < cut → cut ≤ later → cuts cut ≡ false

-- a sector belongs to a request
abbrev pub HasSector : Request → ℕ → Type 0
HasSector request sector = (request.start ≤ sector) × (sector < request.start + request.count)

-- two requests clash if they share a sector and at least one of them writes
pub record Clash (first second : Request) : Type 0 where
  pub sector : ℕ
  pub in_first : HasSector first sector
  pub in_second : HasSector second sector
  pub writes : first.writes || second.writes ≡ true

-- the requests at two positions of a script of version 1 overlap: they are accepted, in one span, and clash. A span ends at a line that drains. In version 2
-- none overlap, since a span also ends before an ordered request (Ordered.antt)
pub record IsOverlap (script : Meant) (earlier later : ℕ) : Type 0 where
  pub refuses : orders script.version ≡ false
  pub first : Request
  pub second : Request
  pub first_accepted : accepted_at script earlier ≡ Some first
  pub second_accepted : accepted_at script later ≡ Some second
  pub in_order : earlier < later
  pub one_span : InOneSpan (drains_at script) earlier later
  pub clash : Clash first second

-- no two requests overlap
abbrev pub HasNoOverlap : Meant → Type 0
HasNoOverlap script = (earlier later : ℕ) → IsOverlap script earlier later → ⊥

-- of all overlapping pairs this one has the least later position, and of these the least earlier one
pub record IsFirstOverlap (script : Meant) (earlier later : ℕ) : Type 0 where
  pub overlap : IsOverlap script earlier later
  pub least_later : (e l : ℕ) → IsOverlap script e l → later ≤ l
  pub least_earlier : (e : ℕ) → IsOverlap script e later → earlier ≤ e

-- these are the numbers of the lines of the first overlapping pair
pub record IsReported (script : Meant) (pair : Overlap) : Type 0 where
  pub earlier : ℕ
  pub later : ℕ
  pub is_first : IsFirstOverlap script earlier later
  pub earlier_line : number_at script earlier ≡ Some pair.earlier
  pub later_line : number_at script later ≡ Some pair.line

-- the result of a check of a script is its first overlap, or that there is none, unless memory was refused
abbrev pub IsChecked : {A : Type 0} → Meant → Result A ScriptFault → Type 0
IsChecked script (Ok done) = HasNoOverlap script
IsChecked script (Err Memory) = Unit {0}
IsChecked script (Err (Parse fault)) = ⊥
IsChecked script (Err (Overlapping pair)) = IsReported script pair
