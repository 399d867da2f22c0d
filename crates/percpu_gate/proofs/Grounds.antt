-- What the reply to a pass's step shows.
use Rattle.std.proofs.Common.{◌≡◌, inl, inr, subst, List, [], ◌∷◌, Some, ℕ, ◌+◌, ◌-◌, ◌≤◌, Bool, true, false, ◌||◌, refl, ap, sym, ◌∙◌, arith}
use Rattle.percpu_words.specs.SharedWord.{SharedWord, spelling, parts}
use Rattle.percpu_words.proofs.SharedWordSteps.{parts_of_spelling}
use Rattle.percpu_core.specs.declared.pass_event.PassEvent.TheVariants as events
use Rattle.percpu_core.specs.declared.pass_standing.Pending.TheVariants.{Nothing}
use Rattle.percpu_core.specs.declared.reply.Reply.TheVariants.{Shared, Number}
use Rattle.percpu_core.specs.declared.view.PassView.{PassView}
use Rattle.std.proofs.lemmas.Option.{get_or_from_slice_get}
use Rattle.std.specs.Prelude.{slice_get, slice_index}
use Rattle.percpu_core.specs.declared.view.WordRead.{WordRead}
use Rattle.percpu_core.specs.GuardLaw.{AreNow}
use Rattle.percpu_core.specs.Views.{count}
use Rattle.percpu_gate.specs.Calls.{PassLook, HasRead}
use Rattle.percpu_gate.specs.Seats.{GateFacts, PassStep, dead_at, zero_at}
use Rattle.percpu_gate.proofs.Known.{moment_knows}
use Rattle.percpu_gate.proofs.SharedWords.{shared_is}

or_true : (a b : Bool) → b ≡ true → (a || b) ≡ true
or_true true b is = refl
or_true false b is = is

number : (a b : ℕ) → Number a ≡ Number b → a ≡ b
number a b e = cc

-- a front that is loaded is no less than the pass's floor, nor than what it has seen
pub front_grows : {g : GateFacts} (old new : PassView) (n : ℕ) → PassStep g events.LoadFront old new (Number n) → (old.floor ≤ n) × (old.seen_front ≤ n)
front_grows old new n s = let q = moment_knows old s.moment in let is : n ≡ s.moment.cells.front = number n s.moment.cells.front s.answered in let floor = q.floor in let seen = q.seen_front in (omega arith, omega arith)

exact : {g : GateFacts} (old new : PassView) (w : ℕ) (s : PassStep g events.LookShared old new (Shared w)) → parts w ≡ s.moment.cells.shared
exact old new w s = let small = (moment_knows old s.moment).small in ap parts (shared_is w (spelling s.moment.cells.shared) s.answered) ∙ parts_of_spelling s.moment.cells.shared (omega arith)

-- a look that found a mark
pub found_dead : {g : GateFacts} (old new : PassView) (w : ℕ) → PassStep g events.LookShared old new (Shared w) → (parts w).dead ≡ true → new.found_dead ≡ true
found_dead old new w s dead = ap (λ (v : PassView). v.found_dead) s.learned ∙ or_true old.found_dead s.moment.cells.shared.dead (sym (ap (λ (x : SharedWord). x.dead) (exact old new w s)) ∙ dead)

pub found_zero : {g : GateFacts} (old new : PassView) (w : ℕ) → PassStep g events.LookShared old new (Shared w) → (parts w).zero ≡ true → (new.found_zero ≡ true) × (old.standing.held ≡ 0)
found_zero old new w s zero = let is = sym (ap (λ (x : SharedWord). x.zero) (exact old new w s)) ∙ zero in
    (ap (λ (v : PassView). v.found_zero) s.learned ∙ or_true old.found_zero s.moment.cells.shared.zero is, (moment_knows old s.moment).none_at_zero is)

-- a look at the marks leaves everything except what it found
abbrev looked : {g : GateFacts} (old new : PassView) (w : ℕ) → old.standing.pending ≡ Nothing → PassStep g events.LookShared old new (Shared w) → PassLook g old new
looked old new w none s = record {
  moment = s.moment;
  leaves = s.learned ∙ (λ j. record old {
    standing = record { held = held j; pending = sym none j };
    looks = old.looks + 1;
    found_dead_times = old.found_dead_times + count s.moment.cells.shared.dead;
    found_zero_times = old.found_zero_times + count s.moment.cells.shared.zero;
    releases = won j;
    found_dead = old.found_dead || s.moment.cells.shared.dead;
    found_zero = old.found_zero || s.moment.cells.shared.zero;
  });
}
  where
    held : old.standing.held + 0 - 0 ≡ old.standing.held
    held = omega arith

    won : old.releases + 0 ≡ old.releases
    won = omega arith

-- and records the mark that it found
pub looked_for_dead : {g : GateFacts} (old new : PassView) (w : ℕ) (is_dead : Bool) → old.standing.pending ≡ Nothing → is_dead ≡ (parts w).dead → PassStep g events.LookShared old new (Shared w)
    → (look : PassLook g old new) × (is_dead ≡ dead_at look.moment)
looked_for_dead old new w is_dead none is s = (looked old new w none s, is ∙ ap (λ (x : SharedWord). x.dead) (exact old new w s))

pub looked_for_zero : {g : GateFacts} (old new : PassView) (w : ℕ) (is_zero : Bool) → old.standing.pending ≡ Nothing → is_zero ≡ (parts w).zero → PassStep g events.LookShared old new (Shared w)
    → (look : PassLook g old new) × (is_zero ≡ zero_at look.moment)
looked_for_zero old new w is_zero none is s = (looked old new w none s, is ∙ ap (λ (x : SharedWord). x.zero) (exact old new w s))

-- and is counted
pub dead_counted : {g : GateFacts} (old new : PassView) (w : ℕ) (is_dead : Bool) → is_dead ≡ (parts w).dead → PassStep g events.LookShared old new (Shared w) → new.found_dead_times ≡ old.found_dead_times + count is_dead
dead_counted old new w is_dead is s = ap (λ (v : PassView). v.found_dead_times) s.learned ∙ ap (λ (b : Bool). old.found_dead_times + count b) (sym (is ∙ ap (λ (x : SharedWord). x.dead) (exact old new w s)))

pub zero_counted : {g : GateFacts} (old new : PassView) (w : ℕ) (is_zero : Bool) → is_zero ≡ (parts w).zero → PassStep g events.LookShared old new (Shared w) → new.found_zero_times ≡ old.found_zero_times + count is_zero
zero_counted old new w is_zero is s = ap (λ (v : PassView). v.found_zero_times) s.learned ∙ ap (λ (b : Bool). old.found_zero_times + count b) (sym (is ∙ ap (λ (x : SharedWord). x.zero) (exact old new w s)))

-- a look leaves what is held
pub step_keeps_standing : {g : GateFacts} (old new : PassView) (w : ℕ) → PassStep g events.LookShared old new (Shared w) → new.standing ≡ record { held = old.standing.held; pending = Nothing }
step_keeps_standing old new w s = ap (λ (v : PassView). v.standing) s.learned ∙ (λ j. record { held = held j; pending = Nothing })
  where
    held : old.standing.held + 0 - 0 ≡ old.standing.held
    held = omega arith

-- a word that was read is read again
read_is_now : (words : List ℕ) (k v : ℕ) (rs : List WordRead) → AreNow words rs → HasRead k v rs → slice_get words k ≡ Some v
read_is_now words k v [] now has = absurd has
read_is_now words k v (r ∷ rs) now (inl e) = subst (λ (x : WordRead). slice_get words x.word ≡ Some x.value) e now.0
read_is_now words k v (r ∷ rs) now (inr has) = read_is_now words k v rs now.1 has

pub read_again : {g : GateFacts} (old new : PassView) (k n v : ℕ) → 1 ≤ old.standing.held → PassStep g (events.LoadWord k) old new (Number n) → HasRead k v old.read → n ≡ v
read_again old new k n v holds s has = number n (slice_index s.moment.cells.words k) s.answered
    ∙ get_or_from_slice_get s.moment.cells.words k v 0 (read_is_now s.moment.cells.words k v old.read ((moment_knows old s.moment).read (omega arith)) has)
