-- What the reply to the control's step shows.
use Rattle.std.proofs.Common.{◌≡◌, ℕ, ◌+◌, ◌*◌, ◌%◌, ◌≤◌, Bool, true, false, ◌||◌, refl, ap, sym, ◌∙◌, arith}
use Rattle.std.specs.Prelude.{pos}
use Rattle.percpu_words.specs.SharedWord.{SharedWord, spelling, parts}
use Rattle.percpu_words.proofs.SharedWordSteps.{parts_of_spelling}
use Rattle.percpu_core.specs.declared.limits.TheConstants.{KILL_LIMIT}
use Rattle.percpu_core.specs.declared.control_event.ControlEvent.TheVariants as events
use Rattle.percpu_core.specs.declared.phase.Phase.{Phase}
use Rattle.percpu_core.specs.declared.phase.Phase.TheVariants.{LiveSlots, LiveAtomic, Closing, Collected, Confirmed, Dead, Reviving, Fronted, Opening}
use Rattle.percpu_core.specs.declared.reply.Reply.{Reply}
use Rattle.percpu_core.specs.declared.reply.Reply.TheVariants.{Given, Refused, NotLast, ToMark, Last, Lost, Won, Opened, Closed, Shared, Number, Done}
use Rattle.percpu_core.specs.declared.reply.Reply.TheVariants as answers
use Rattle.percpu_core.specs.declared.view.ControlView.{ControlView}
use Rattle.percpu_core.specs.Views.{count}
use Rattle.percpu_core.specs.Phases.{has_odd_front, is_coming_back, may_be_zero}
use Rattle.percpu_core.specs.ControlSteps.{control_reply}
use Rattle.percpu_core.specs.ControlLearns.{control_view_after}
use Rattle.percpu_core.specs.Machine.{won}
use Rattle.percpu_gate.specs.Seats.{GateFacts, ControlStep, ControlFinds, FindsZero}
use Rattle.percpu_gate.specs.ControlCalls.{after_revival, IsBetweenCalls}
use Rattle.percpu_gate.proofs.Known.{moment_known}
use Rattle.percpu_gate.proofs.SharedWords.{shared_is}
use Rattle.percpu_gate.proofs.Ending.{none_out_at_zero}

-- the front before a confirmation is even
pub odd_next : {g : GateFacts} (old new : ControlView) (r : Reply) → old.standing.phase ≡ Collected → ControlStep g events.Confirm old new r → (old.front + 1) % 2 ≡ 1
odd_next old new r is s = let even : count (has_odd_front old.standing.phase) ≡ 0 = ap (λ (x : Phase). count (has_odd_front x)) is in let parity = (moment_known old s.moment).parity in omega arith

exact : {g : GateFacts} (old new : ControlView) (w : ℕ) (s : ControlStep g events.LookShared old new (Shared w)) → parts w ≡ s.moment.cells.shared
exact old new w s = let small = (moment_known old s.moment).small in ap parts (shared_is w (spelling s.moment.cells.shared) s.answered) ∙ parts_of_spelling s.moment.cells.shared (omega arith)

-- a look leaves everything but what is known of ZERO
pub looked : {g : GateFacts} (old new : ControlView) (w : ℕ) (zero : Bool) → old.standing.to_mark ≡ false → zero ≡ (parts w).zero → ControlStep g events.LookShared old new (Shared w)
    → new ≡ record old { knows_zero = old.knows_zero || zero }
looked old new w zero none is s = let found = exact old new w s in s.learned ∙ (λ j. record old {
  standing = record { phase = old.standing.phase; kills = old.standing.kills; to_mark = sym none j; uncollected = old.standing.uncollected };
  releases = nothing_won j;
  knows_zero = old.knows_zero || (sym (ap (λ (x : SharedWord). x.zero) found) ∙ sym is) j;
})
  where
    nothing_won : old.releases + 0 ≡ old.releases
    nothing_won = omega arith

-- ZERO as the look found it
pub finds_zero : {g : GateFacts} (old new : ControlView) (w : ℕ) (zero : Bool) → zero ≡ (parts w).zero → ControlStep g events.LookShared old new (Shared w) → FindsZero g old zero
finds_zero old new w zero is s = record { moment = s.moment; found = sym (is ∙ ap (λ (x : SharedWord). x.zero) (exact old new w s)) }

-- and what was known is found
pub found_as_known : {g : GateFacts} (old new : ControlView) (w : ℕ) (zero : Bool) → zero ≡ (parts w).zero → ControlStep g events.LookShared old new (Shared w) → old.knows_zero ≡ true → zero ≡ true
found_as_known old new w zero is s known = is ∙ ap (λ (x : SharedWord). x.zero) (exact old new w s) ∙ (moment_known old s.moment).zero known

-- of a dead gate with no pass out the look finds ZERO
pub zero_when_none_out : {g : GateFacts} (old new : ControlView) (w : ℕ) (zero : Bool) → old.standing.to_mark ≡ false → zero ≡ (parts w).zero → ControlStep g events.LookShared old new (Shared w)
    → old.passes ≡ 0 → old.standing.phase ≡ Dead → zero ≡ true
zero_when_none_out old new w zero marked is s none dead = is ∙ ap (λ (x : SharedWord). x.zero) (exact old new w s) ∙ none_out_at_zero old s.moment marked none dead

won-most : (r : Reply) → won r ≤ 1
won-most Given = omega arith
won-most Refused = omega arith
won-most NotLast = omega arith
won-most ToMark = omega arith
won-most Last = omega arith
won-most Lost = omega arith
won-most Won = omega arith
won-most (Opened d) = omega arith
won-most Closed = omega arith
won-most (answers.Collected d) = omega arith
won-most (Shared w) = omega arith
won-most (Number n) = omega arith
won-most Done = omega arith

-- the releases stay few
pub few_after_drop : {g : GateFacts} (old new : ControlView) (r : Reply) → ControlStep g events.DropBase old new r → new.releases ≤ 2 * KILL_LIMIT
few_after_drop old new r s = let few = (moment_known old s.moment).releases in let is : new.releases ≡ old.releases + won (control_reply events.DropBase old.standing s.moment.cells) = ap (λ (c : ControlView). c.releases) s.learned in
    let one = won-most (control_reply events.DropBase old.standing s.moment.cells) in omega arith

pub few_after_mark : {g : GateFacts} (old new : ControlView) (r : Reply) → ControlStep g events.Mark old new r → new.releases ≤ 2 * KILL_LIMIT
few_after_mark old new r s = let few = (moment_known old s.moment).releases in let is : new.releases ≡ old.releases + won (control_reply events.Mark old.standing s.moment.cells) = ap (λ (c : ControlView). c.releases) s.learned in
    let one = won-most (control_reply events.Mark old.standing s.moment.cells) in omega arith

-- what is known of ZERO is true when the initial reference is taken back
pub known_at_zero : {g : GateFacts} (old : ControlView) (zero : Bool) → FindsZero g old zero → old.knows_zero ≡ true → zero ≡ true
known_at_zero old zero t known = sym t.found ∙ (moment_known old t.moment).zero known

zero_found : {g : GateFacts} (old new : ControlView) (w : ℕ) (zero : Bool) → zero ≡ (parts w).zero → (s : ControlFinds g events.TakeBase old new w) → s.moment.cells.shared.zero ≡ zero
zero_found old new w zero is s = let small = (moment_known old s.moment).small in
    sym (is ∙ ap (λ (x : ℕ). (parts x).zero) s.word_found ∙ ap (λ (x : SharedWord). x.zero) (parts_of_spelling s.moment.cells.shared (omega arith)))

pub takes_back : {g : GateFacts} (old new : ControlView) (w : ℕ) (zero : Bool) → zero ≡ (parts w).zero → ControlFinds g events.TakeBase old new w → FindsZero g old zero
takes_back old new w zero is s = record { moment = s.moment; found = zero_found old new w zero is s }

-- the three steps of a revival together
pub revived : {g : GateFacts} (old a b new : ControlView) (w : ℕ) (zero : Bool) → old.standing.uncollected ≡ pos 0 → zero ≡ (parts w).zero
    → ControlFinds g events.TakeBase old a w → ControlStep g events.NextFront a b Done → ControlStep g events.ClearDead b new Done → new ≡ after_revival LiveAtomic zero old
revived old a b new w zero calm is s t u = let first : a ≡ control_view_after events.TakeBase s.moment.cells old = s.learned in
    let second : b ≡ control_view_after events.NextFront t.moment.cells (control_view_after events.TakeBase s.moment.cells old) = t.learned ∙ ap (λ (c : ControlView). control_view_after events.NextFront t.moment.cells c) first in
    let third : new ≡ control_view_after events.ClearDead u.moment.cells (control_view_after events.NextFront t.moment.cells (control_view_after events.TakeBase s.moment.cells old))
    = u.learned ∙ ap (λ (c : ControlView). control_view_after events.ClearDead u.moment.cells c) second in
    let coming : is_coming_back b.standing.phase ≡ true = ap (λ (c : ControlView). is_coming_back c.standing.phase) second in
    let settled : u.moment.cells.shared.zero ≡ zero = sym ((moment_known b u.moment).settled coming) ∙ ap (λ (c : ControlView). c.knows_zero) second ∙ zero_found old a w zero is s in
    third ∙ (λ j. record old {
      standing = record { phase = LiveAtomic; kills = old.standing.kills; to_mark = false; uncollected = calm j };
      front = old.front + 1;
      revivals = old.revivals + 1;
      zeros_cleared = old.zeros_cleared + count (settled j);
      releases = none_won j;
      knows_zero = false;
    })
  where
    none_won : old.releases + 0 + 0 + 0 ≡ old.releases
    none_won = omega arith

-- ZERO is found in the phase dead alone, between two calls of the control
pub zero_when_dead : {g : GateFacts} (old new : ControlView) (w : ℕ) (zero : Bool) → IsBetweenCalls old.standing.phase → zero ≡ (parts w).zero → ControlStep g events.LookShared old new (Shared w)
    → zero ≡ true → old.standing.phase ≡ Dead
zero_when_dead old new w zero between is s set = only_dead old.standing.phase between
    ((moment_known old s.moment).may_be_zero (sym (ap (λ (x : SharedWord). x.zero) (exact old new w s)) ∙ sym is ∙ set))
  where
    only_dead : (x : Phase) → IsBetweenCalls x → may_be_zero x ≡ true → x ≡ Dead
    only_dead LiveSlots b z = cc
    only_dead LiveAtomic b z = cc
    only_dead (Closing i) b z = cc
    only_dead Collected b z = cc
    only_dead Confirmed b z = cc
    only_dead Dead b z = refl
    only_dead Reviving b z = absurd b
    only_dead Fronted b z = absurd b
    only_dead (Opening i) b z = absurd b
