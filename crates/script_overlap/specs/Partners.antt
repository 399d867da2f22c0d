-- The requests before a position that clash with a request there.
use Rattle.std.specs.Prelude.{◌≡◌, ℕ, ◌<◌, ◌≤◌, false, Option, Some, MatchOption}
use Rattle.script_meaning.specs.Requests.{accepted_at, drains_at, number_at}
use Rattle.script_overlap.specs.Overlap.{Clash}
use Rattle.script_meaning.specs.Script.{Meant}
use Rattle.script_meaning.specs.declared.reply.Request.{Request}

-- no line between two positions drains: the span of the earlier one reaches to the later one
abbrev pub NoneDrains : Meant → ℕ → ℕ → Type 0
NoneDrains script earlier here = (between : ℕ) → earlier < between → between < here → drains_at script between ≡ false

-- an accepted request at an earlier position, in the span that reaches to this one, clashes with the request here
pub record IsPartner (script : Meant) (here : ℕ) (request : Request) (earlier : ℕ) : Type 0 where
  pub other : Request
  pub other_accepted : accepted_at script earlier ≡ Some other
  pub in_order : earlier < here
  pub one_span : NoneDrains script earlier here
  pub clash : Clash other request

-- this is the number of the line at the first such position
pub record IsEarliest (script : Meant) (here : ℕ) (request : Request) (number : ℕ) : Type 0 where
  pub earlier : ℕ
  pub partner : IsPartner script here request earlier
  pub least : (e : ℕ) → IsPartner script here request e → earlier ≤ e
  pub line : number_at script earlier ≡ Some number

-- the number of the line at the first such position, if there is one
abbrev pub Finds : Meant → ℕ → Request → Option ℕ → Type 0
Finds script here request found = MatchOption found ((e : ℕ) → IsPartner script here request e → ⊥) (IsEarliest script here request)
