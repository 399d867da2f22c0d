-- What a pass keeps outside its seat, after a try.
use Rattle.std.proofs.Common.{◌≡◌, ℕ, ◌+◌, ◌*◌, ◌<◌, ◌≤◌, ap, ◌∙◌, arith}
use Rattle.percpu_core.specs.declared.limits.TheConstants.{HELD_LIMIT, KILL_LIMIT}
use Rattle.percpu_core.specs.declared.pass_standing.PassStanding.{PassStanding}
use Rattle.percpu_core.specs.declared.view.PassView.{PassView}
use Rattle.percpu_gate.specs.declared.tried.Tried.{Tried}
use Rattle.percpu_gate.specs.declared.tried.Tried.TheVariants.{Given, Refused}
use Rattle.percpu_gate.specs.Calls.{holding, taken, released_by, TryLeaves}

taken-most : (r : Tried) → taken r ≤ 1
taken-most Given = omega arith
taken-most (Refused r) = omega arith

-- the fields keep telling what the seat knows
pub fields_kept : (old new : PassView) (r : Tried) (held seen won more wins : ℕ) → TryLeaves old new r → old.standing ≡ holding held → old.seen_front ≡ seen → seen ≤ old.floor → old.releases ≡ won
    → old.standing.held < HELD_LIMIT → new.releases ≤ 2 * KILL_LIMIT → more ≡ taken r → wins ≡ released_by r
    → (new.standing ≡ holding (held + more)) × (held + more ≤ HELD_LIMIT) × (new.seen_front ≡ seen) × (seen ≤ new.floor) × (new.releases ≡ won + wins) × (won + wins ≤ 2 * KILL_LIMIT)
fields_kept old new r held seen won more wins left stands front low releases room few takes adds =
    let holds : old.standing.held ≡ held = ap (λ (p : PassStanding). p.held) stands in
    let sum : old.standing.held + taken r ≡ held + more = omega arith in
    let most = taken-most r in
    let floor = left.floor in
    let all : new.releases ≡ won + wins = (let is = left.releases in omega arith) in
    (left.held ∙ ap holding sum, omega arith, left.seen_front ∙ front, omega arith, all, omega arith)
