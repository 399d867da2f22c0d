-- What the steps of a call leave together.
use Rattle.std.proofs.Common.{◌≡◌, ℕ, ◌+◌, ◌*◌, ◌-◌, ◌≤◌, Bool, true, false, ◌||◌, refl, ap, sym, ◌∙◌, arith}
use Rattle.percpu_core.specs.declared.limits.TheConstants.{KILL_LIMIT}
use Rattle.percpu_core.specs.declared.pass_event.PassEvent.TheVariants as events
use Rattle.percpu_core.specs.declared.pass_standing.Pending.{Pending}
use Rattle.percpu_core.specs.declared.pass_standing.Pending.TheVariants.{Nothing}
use Rattle.percpu_core.specs.declared.start.Start.{Start}
use Rattle.percpu_core.specs.declared.view.PassView.{PassView}
use Rattle.percpu_core.specs.PassSteps.{pending_after}
use Rattle.percpu_core.specs.Machine.{won}
use Rattle.percpu_core.proofs.Flags.{or_false}
use Rattle.percpu_gate.specs.declared.tried.Put.{Put}
use Rattle.percpu_gate.specs.declared.tried.Put.TheVariants.{Last, NotLast}
use Rattle.percpu_core.specs.declared.view.View.TheVariants.{OfPass}
use Rattle.percpu_gate.specs.Rule.{MomentOf}
use Rattle.percpu_gate.specs.Seats.{GateFacts, PassStep, left, marked}
use Rattle.percpu_gate.proofs.Known.{moment_knows}
use Rattle.percpu_gate.specs.Calls.{released, after_put, owed}

-- a step that looks for no mark and reads nothing leaves what is held and owed, and counts releases
abbrev pub counts : (p : PassView) (held more : ℕ) (owes : Pending) → PassView
counts p held more owes = record p { standing = record { held = held; pending = owes }; releases = p.releases + more }

left_owes : (b : Bool) → pending_after (left b) ≡ owed b
left_owes true = refl
left_owes false = refl

left_wins_none : (b : Bool) → won (left b) ≡ 0
left_wins_none true = refl
left_wins_none false = refl

mark_owes_none : (r : Put) → pending_after (marked r) ≡ Nothing
mark_owes_none Last = refl
mark_owes_none NotLast = refl

mark_wins : (r : Put) → won (marked r) ≡ released r
mark_wins Last = refl
mark_wins NotLast = refl

-- what a step leaves that only counts, given its reply
pub counted : (p : PassView) (held held' won won' : ℕ) (owes owes' : Pending) → held ≡ held' → won ≡ won' → owes ≡ owes'
    → record p { standing = record { held = held; pending = owes }; releases = p.releases + won; found_dead = p.found_dead || false; found_zero = p.found_zero || false }
    ≡ counts p held' won' owes'
counted p held held' won won' owes owes' h w o = λ j. record p {
  standing = record { held = h j; pending = o j };
  releases = p.releases + w j;
  found_dead = or_false p.found_dead j;
  found_zero = or_false p.found_zero j;
}

pub undone : {g : GateFacts} (old new : PassView) (b : Bool) → PassStep g events.Undo old new (left b) → new ≡ counts old old.standing.held 0 (owed b)
undone old new b s = s.learned ∙ counted old _ old.standing.held _ 0 _ (owed b) (omega arith) (ap won (sym s.answered) ∙ left_wins_none b) (ap pending_after (sym s.answered) ∙ left_owes b)

pub subtracted : {g : GateFacts} (n : ℕ) (old new : PassView) (b : Bool) → PassStep g (events.Sub n) old new (left b) → new ≡ counts old (old.standing.held - n) 0 (owed b)
subtracted n old new b s = s.learned ∙ counted old _ (old.standing.held - n) _ 0 _ (owed b) (omega arith) (ap won (sym s.answered) ∙ left_wins_none b) (ap pending_after (sym s.answered) ∙ left_owes b)

pub marked_as_put : {g : GateFacts} (old new : PassView) (r : Put) → PassStep g events.Mark old new (marked r) → new ≡ after_put r old.standing.held old
marked_as_put old new r s = s.learned ∙ counted old _ old.standing.held _ (released r) _ Nothing (omega arith) (ap won (sym s.answered) ∙ mark_wins r) (ap pending_after (sym s.answered) ∙ mark_owes_none r)

released-most : (r : Put) → released r ≤ 1
released-most Last = omega arith
released-most NotLast = omega arith

few : {slots words : ℕ} {start : Start} (old mid : PassView) (m : MomentOf slots start words (OfPass old)) → mid.releases ≡ old.releases + 0 → (r : Put) → mid.releases + released r ≤ 2 * KILL_LIMIT
few old mid m same r = let most = (moment_knows old m).releases in let one = released-most r in omega arith

-- the releases stay few
pub few_undone : {g : GateFacts} (old mid : PassView) (b : Bool) (r : Put) → PassStep g events.Undo old mid (left b) → mid.releases + released r ≤ 2 * KILL_LIMIT
few_undone old mid b r s = few old mid s.moment (ap (λ (p : PassView). p.releases) (undone old mid b s)) r

pub few_subtracted : {g : GateFacts} (n : ℕ) (old mid : PassView) (b : Bool) (r : Put) → PassStep g (events.Sub n) old mid (left b) → mid.releases + released r ≤ 2 * KILL_LIMIT
few_subtracted n old mid b r s = few old mid s.moment (ap (λ (p : PassView). p.releases) (subtracted n old mid b s)) r
