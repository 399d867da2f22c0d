-- Which lines pass the point of a drain.
use Rattle.std.proofs.Common.{◌≡◌, ◌∙◌, sym, subst, ℕ, ◌+◌, suc, arith, ◌⊎◌, inl, inr, Bool, true, false, Option, Some, None, Result, Ok, Err, OnErr, OnOk, Contains}
use Rattle.std.specs.List.{slice_get}
use Rattle.std.specs.Option.{option_and_then, option_map_or}
use Rattle.script_meaning.specs.Requests.{accepted_at, accepted_before, drains_at, queue_at}
use Rattle.script_meaning.specs.Script.{Meant}
use Rattle.script_meaning.specs.Taken.{accepted, accepted_in, drains, drains_in, outcome}
use Rattle.script_meaning.specs.declared.script.Line.{Line}
use Rattle.script_meaning.specs.declared.reply.Outcome.{Outcome}
use Rattle.script_meaning.specs.declared.reply.Outcome.TheVariants.{Accepted, Drained, Replied}
use Rattle.script_meaning.specs.declared.reply.Request.{Request}
use Rattle.script_overlap.specs.Ordered.{IsOrdered, JoinsItsSpan}
use Rattle.script_overlap.proofs.OrderedLemmas.{one_order}
use Rattle.blk_workers.specs.Points.{AddsOne, DrainFacts, DrainsAt, MayPassAt, PassesAt, PassesBefore, PassesIfOrdered}

by_outcome : (o : Outcome) (r : Request) → accepted_in o ≡ Some r → drains_in o ≡ true → ⊥
by_outcome (Accepted x) r a d = cc
by_outcome (Drained x) r a d = cc
by_outcome (Replied x) r a d = cc

-- the line of an accepted request drains nothing by its meaning
pub accepted_drains_nothing : (script : Meant) (p : ℕ) (r : Request) → accepted_at script p ≡ Some r → drains_at script p ≡ true → ⊥
accepted_drains_nothing script p r =
    elim (slice_get script.lines p) as (λ at. option_and_then (λ (line : Line). accepted (queue_at script p) line.what) at ≡ Some r → option_map_or (λ (line : Line). drains (queue_at script p) line.what) at false ≡ true → ⊥) [
      | None ↦ λ a d. cc
      | Some line ↦ by_outcome (outcome (queue_at script p) line.what) r
    ]

-- a request that joins the span before it isn't ordered, and a line without a request isn't
pub joins_unordered : (script : Meant) (p : ℕ) → JoinsItsSpan script p → IsOrdered script p → ⊥
joins_unordered script p joins ordered =
    joins.is_none (subst (λ ps. Contains ps p) (one_order script ordered.positions joins.positions ordered.are_ordered joins.are_ordered) ordered.is_one)

pub none_unordered : (script : Meant) (p : ℕ) → accepted_at script p ≡ None → IsOrdered script p → ⊥
none_unordered script p none ordered =
    let waits = ordered.are_ordered.wait p ordered.is_one in
    let some : accepted_at script p ≡ Some waits.second = waits.second_accepted in
    cc

-- what an accepted request passes is what its line passes
pub accepted_passes : (script : Meant) (p : ℕ) (r : Request) (old new : DrainFacts) → accepted_at script p ≡ Some r → PassesIfOrdered script p old new → PassesAt script p old new
accepted_passes script p r old new is passes =
    elim passes [
      | inl ordered ↦ inl (inr ordered.0, ordered.1)
      | inr unordered ↦ inr (λ drains. elim drains [ inl line ↦ accepted_drains_nothing script p r is line | inr ordered ↦ unordered.0 ordered ], unordered.1)
    ]

pub ordered_may_pass : (script : Meant) (p : ℕ) (old new : DrainFacts) → PassesIfOrdered script p old new → MayPassAt script p old new
ordered_may_pass script p old new passes = elim passes [ inl ordered ↦ inr (inr ordered.0, ordered.1) | inr unordered ↦ inl unordered.1 ]

-- a line that drains by its meaning, and one that has no request and doesn't
pub drained_passes : (script : Meant) (p accepted : ℕ) (old mid new : DrainFacts) → drains_at script p ≡ true → accepted ≡ accepted_before script p → AddsOne accepted old mid → new ≡ mid
    → DrainsAt script p × AddsOne (accepted_before script p) old new
drained_passes script p accepted old mid new drains counted adds same =
    (inl drains, subst (λ (d : DrainFacts). AddsOne (accepted_before script p) old d) (sym same) (subst (λ n. AddsOne n old mid) counted adds))

pub replied_passes : (script : Meant) (p : ℕ) (old new : DrainFacts) → accepted_at script p ≡ None → drains_at script p ≡ false → new ≡ old → PassesAt script p old new
replied_passes script p old new none quiet same =
    inr (λ drains. elim drains [ inl line ↦ (let both : false ≡ true = sym quiet ∙ line in cc) | inr ordered ↦ none_unordered script p none ordered ], same)

-- what holds anyway holds of each result
pub always_ok : {A E : Type 0} (r : Result A E) (P : Type 0) → P → OnOk r P
always_ok (Ok value) P holds = holds
always_ok (Err why) P holds = tt

pub always_err : {A E : Type 0} (r : Result A E) (P : Type 0) → P → OnErr r P
always_err (Ok value) P holds = tt
always_err (Err why) P holds = holds

passes_next : (script : Meant) (p : ℕ) (old there new : DrainFacts) → PassesBefore script p old there → PassesAt script p there new → PassesBefore script (suc p) old new
passes_next script p old there new before at = (there, before, at)

-- one line more
pub passes_more : (script : Meant) (p : ℕ) (old there new : DrainFacts) → PassesBefore script p old there → PassesAt script p there new → PassesBefore script (p + 1) old new
passes_more script p old there new before at =
    let one : suc p ≡ p + 1 = omega arith in
    subst (λ n. PassesBefore script n old new) one (passes_next script p old there new before at)
