-- What a queue that has ended leaves, of an open freezer.
use Rattle.std.proofs.Common.{◌≡◌, ℕ, rules, ◌+◌, ◌-◌, ◌<◌, ◌≤◌, ◌==◌, Bool, false, None, Some, List, if◌then◌else◌, sym, ap, subst, ◌∙◌, arith}
use Rattle.std.specs.Prelude.{sum_by, nat_le}
use Rattle.percpu_gate.specs.declared.exit.Final.{Final}
use Rattle.percpu_gate.specs.declared.tried.Put.{Put}
use Rattle.percpu_gate.specs.Calls.{released}
use Rattle.percpu_gate.specs.Seats.{GateFacts}
use Rattle.queue_limits.specs.Bounds.{Bounds}
use Rattle.queue_limits.specs.Words.{to_words}
use Rattle.queue_core.specs.declared.fault.FreezeFault.TheVariants.{TagsOut}
use Rattle.queue_core.specs.declared.limit_words.TheConstants.{LIMIT_WORDS}
use Rattle.queue_core.specs.Queue.{FreezerFacts, TagFacts, remove_refusal}
use Rattle.queue_core.specs.Removal.{HasEnded, IsFrozenToEnd, kills_after, releases_after}
use Rattle.freeze_queue_c.specs.declared.plain_limits.PlainLimits.{PlainLimits}
use Rattle.freeze_queue_c.specs.Ends.{IsFinal, worn_out}
use Rattle.freeze_queue_c.specs.Opened.{FreezerOpened}
use Rattle.freeze_queue_c.specs.PlainLimits.{as_bounds}

not_zero : (n : ℕ) → 0 < n → (n == 0) ≡ false
not_zero n lt = search rules

kills_frozen : (f : FreezerFacts) → 0 < f.depth → kills_after f ≡ f.kills
kills_frozen f frozen = ap (λ (b : Bool). if b then f.kills + 1 else f.kills) (not_zero f.depth frozen)

releases_frozen : (last : Put) (f : FreezerFacts) → 0 < f.depth → releases_after last f ≡ f.releases
releases_frozen last f frozen = ap (λ (b : Bool). if b then f.releases + released last else f.releases) (not_zero f.depth frozen)

-- a queue that was frozen to end has ended as one that is frozen for the last time
pub ended_anyway : {gate : GateFacts} {old f : FreezerFacts} {tags : List TagFacts} {left : Final LIMIT_WORDS} → IsFrozenToEnd old f → 0 < f.depth
    → HasEnded gate f tags left → HasEnded gate old tags left
ended_anyway {old = old} {f = f} {tags = tags} froze frozen e = record {
  dead = e.dead;
  drained = e.drained;
  kills = e.kills ∙ kills_frozen f frozen ∙ froze.kills;
  words = e.words ∙ ap (λ (l : Bounds). to_words l) froze.same.1;
  drains = e.drains ∙ ap (λ (n : ℕ). n + 1) froze.same.3;
  at_most = e.at_most;
  releases = (froze.last, λ all. e.releases.1 (all ∙ sym froze.same.2) ∙ ap (λ (n : ℕ). n + sum_by (λ t. t.releases) tags) (releases_frozen e.releases.0 f frozen ∙ froze.releases));
}

pub ends_well : (f : FreezerFacts) (tags : ℕ) → f.tags ≤ tags → None ≡ worn_out f → remove_refusal f tags ≡ None
ends_well f tags all may =
    let none : f.tags - tags ≡ 0 = omega arith in
    ap (λ (n : ℕ). if nat_le 1 n then Some (TagsOut n) else worn_out f) none ∙ sym may

pub final_of : {left : Final LIMIT_WORDS} {limits : PlainLimits} (f : FreezerOpened) → as_bounds limits ≡ f.freezer.limits → HasEnded f.queue.gate f.freezer f.waiting left
    → IsFinal f (record { dead = left.dead; kills = left.kills; releases = left.releases; limits = limits })
final_of {left = left} f limits ended = record {
  limits = limits;
  ended = subst (λ (w : List ℕ). HasEnded f.queue.gate f.freezer f.waiting (record { dead = left.dead; kills = left.kills; releases = left.releases; words = w })) ended.words ended;
}
