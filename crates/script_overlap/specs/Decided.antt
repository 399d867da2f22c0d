-- What a check decides about a script.
use Rattle.std.specs.Prelude.{◌≡◌, ℕ, ◌≤◌, List, length, slice_get, Option}
use Rattle.std.specs.Option.{option_and_then}
use Rattle.script_meaning.specs.Requests.{accepted_at, accepted_in_all}
use Rattle.script_meaning.specs.Script.{Meant}
use Rattle.script_meaning.specs.declared.reply.Request.{Request}
use Rattle.script_overlap.specs.Ordered.{AreOrdered, NoneInVersionOne}
use Rattle.script_overlap.specs.Overlap.{HasNoOverlap}

-- what is recorded for a position: the request that the queue accepts there, if there is one
abbrev pub written_at : List (Option Request) → ℕ → Option Request
written_at requests position = option_and_then (λ request. request) (slice_get requests position)

abbrev pub AreWritten : Meant → List (Option Request) → Type 0
AreWritten script requests = (position : ℕ) → written_at requests position ≡ accepted_at script position

-- the request at each position is recorded; no two requests overlap, `ordered` has the positions of the ordered requests, of which version 1 has none, and
-- `accepted` is how many requests are accepted
pub record IsDecided (script : Meant) (requests : List (Option Request)) (ordered : List ℕ) (accepted : ℕ) : Type 0 where
  pub written : AreWritten script requests
  pub apart : HasNoOverlap script
  pub order : AreOrdered script ordered
  pub of_version : NoneInVersionOne script ordered
  pub count : accepted ≡ accepted_in_all script
  pub few : accepted ≤ length script.lines
