-- The effect of the calls of a pass, and the meaning of each result.
use Rattle.std.specs.Prelude.{◌≡◌, ℕ, ◌+◌, ◌%◌, ◌<◌, ◌≤◌, ◌⊎◌, Bool, true, false, not, ◌||◌, List, [], ◌∷◌}
use Rattle.percpu_core.specs.declared.pass_standing.Pending.{Pending}
use Rattle.percpu_core.specs.declared.pass_standing.Pending.TheVariants.{Nothing, OneToUndo, ZeroToMark}
use Rattle.percpu_core.specs.declared.pass_standing.PassStanding.{PassStanding}
use Rattle.percpu_core.specs.declared.view.WordRead.{WordRead}
use Rattle.percpu_core.specs.declared.view.PassView.{PassView}
use Rattle.percpu_core.specs.declared.view.View.TheVariants.{OfPass}
use Rattle.percpu_core.specs.Cells.{Cells}
use Rattle.percpu_core.specs.Views.{count}
use Rattle.percpu_gate.specs.declared.tried.Put.{Put}
use Rattle.percpu_gate.specs.declared.tried.Put.TheVariants.{Last, NotLast}
use Rattle.percpu_gate.specs.declared.tried.Tried.{Tried}
use Rattle.percpu_gate.specs.declared.tried.Tried.TheVariants.{Given, Refused}
use Rattle.percpu_gate.specs.Seats.{GateFacts, Moment, dead_at, zero_at, front_at, slot_open_at}

-- this many references are held, and there is nothing to undo or to mark
abbrev pub holding : ℕ → PassStanding
holding n = record { held = n; pending = Nothing }

abbrev pub released : Put → ℕ
released Last = 1
released NotLast = 0

-- the references that a try gives, and the releases that it wins
abbrev pub taken : Tried → ℕ
taken Given = 1
taken (Refused r) = 0

abbrev pub released_by : Tried → ℕ
released_by Given = 0
released_by (Refused r) = released r

abbrev pub is_refused : Tried → Bool
is_refused Given = false
is_refused (Refused r) = true

-- a pass's view after a put: this many references are held, and one more release is counted if the put was the last
abbrev pub after_put : Put → ℕ → PassView → PassView
after_put r held p = record p { standing = holding held; releases = p.releases + released r }

-- what is pending after a subtraction that left a zero to mark, or none
abbrev pub owed : Bool → Pending
owed true = ZeroToMark
owed false = Nothing

-- what is pending after the addition of a try that was given, or refused
abbrev pub to_take_back : Bool → Pending
to_take_back true = Nothing
to_take_back false = OneToUndo

-- a pass's view after the end of a try: a refused try removes its addition, and that may be the last put
abbrev pub after_try : Tried → PassView → PassView
after_try Given p = p
after_try (Refused r) p = after_put r p.standing.held p

-- what was found once stays found
abbrev pub StaysFound : PassView → PassView → Type 0
StaysFound old new = (old.found_dead ≡ true → new.found_dead ≡ true) × (old.found_zero ≡ true → new.found_zero ≡ true)

-- the effect of a try
pub record TryLeaves (old new : PassView) (r : Tried) : Type 0 where
  -- Given adds 1 to the references held, and Refused doesn't change them
  pub held : new.standing ≡ holding (old.standing.held + taken r)
  pub releases : new.releases ≡ old.releases + released_by r
  pub seen_front : new.seen_front ≡ old.seen_front
  -- a floor only rises, and if the try is refused it stays
  pub floor : old.floor ≤ new.floor
  pub same_floor : is_refused r ≡ true → new.floor ≡ old.floor
  pub front_loads : new.front_loads ≡ old.front_loads
  -- the count of references from a live gate never falls
  pub live_given : old.live_given ≤ new.live_given
  -- the guarded words that were read stay known while a reference is held, and reading begins anew if none was
  pub read : 0 < old.standing.held → new.read ≡ old.read
  pub anew : old.standing.held ≡ 0 → new.read ≡ []
  pub found : StaysFound old new

-- what a try found, at a moment: ZERO set if it is refused, and clear if it is given. What the pass counts (`TryMeets`) ties it to the call
pub record TryFinds (g : GateFacts) (old : PassView) (r : Tried) : Type 0 where
  pub moment : Moment g (OfPass old)
  pub zero : zero_at moment ≡ is_refused r
  pub dead : is_refused r ≡ true → dead_at moment ≡ true

-- what a try for a live gate found, at a moment, bound in the same way: DEAD set if it is refused. If it is given, DEAD clear or its slot open, at an even front
pub record LiveTryFinds (g : GateFacts) (slot : ℕ) (old : PassView) (r : Tried) : Type 0 where
  pub moment : Moment g (OfPass old)
  pub refused : is_refused r ≡ true → dead_at moment ≡ true
  pub given : is_refused r ≡ false → (not (dead_at moment) || slot_open_at slot moment) ≡ true
  pub even : is_refused r ≡ false → front_at moment % 2 ≡ 0

-- no step of the call loaded the shared word, or found a mark at an addition
pub record FindsNothing (old new : PassView) : Type 0 where
  pub looks : new.looks ≡ old.looks
  pub dead : new.found_dead_times ≡ old.found_dead_times
  pub zero : new.found_zero_times ≡ old.found_zero_times

-- one step of the call looked for marks, at this moment, and the pass counts the marks that it found. No load is counted, so the step is an addition of this call
pub record OneAddition (g : GateFacts) (old new : PassView) : Type 0 where
  pub moment : Moment g (OfPass old)
  pub looks : new.looks ≡ old.looks
  pub dead : new.found_dead_times ≡ old.found_dead_times + count (dead_at moment)
  pub zero : new.found_zero_times ≡ old.found_zero_times + count (zero_at moment)

-- whether the shared word has DEAD, or ZERO
abbrev pub has_dead : Cells → Bool
has_dead c = c.shared.dead

abbrev pub has_zero : Cells → Bool
has_zero c = c.shared.zero

-- a try is refused if and only if its one addition found this mark; or its slot gave, and nothing was added
abbrev pub TryMeets : GateFacts → (Cells → Bool) → PassView → PassView → Bool → Type 0
TryMeets g mark old new refused = ((refused ≡ false) × FindsNothing old new) ⊎ ((addition : OneAddition g old new) × (mark addition.moment.cells ≡ refused))

-- what a pass holds after `get`. A floor only rises, as does the count of what a live gate gave
pub record GetLeaves (old new : PassView) (n : ℕ) : Type 0 where
  pub view : new ≡ record old { standing = holding (old.standing.held + n); floor = new.floor; live_given = new.live_given }
  pub floor : old.floor ≤ new.floor
  pub live_given : old.live_given ≤ new.live_given

-- a pass's view after a look at the marks of a gate: only the look and the marks that it found are added
abbrev pub after_look : Bool → Bool → PassView → PassView
after_look dead zero p = record p {
  looks = p.looks + 1;
  found_dead_times = p.found_dead_times + count dead;
  found_zero_times = p.found_zero_times + count zero;
  found_dead = p.found_dead || dead;
  found_zero = p.found_zero || zero;
}

-- a look at the marks, at a moment of its call: one more load is counted, with what it found, so the look is a step of this call
pub record PassLook (g : GateFacts) (old new : PassView) : Type 0 where
  pub moment : Moment g (OfPass old)
  pub leaves : new ≡ after_look (dead_at moment) (zero_at moment) old

-- the same, field by field
pub record LookLeaves (old new : PassView) : Type 0 where
  pub standing : new.standing ≡ old.standing
  pub releases : new.releases ≡ old.releases
  pub seen_front : new.seen_front ≡ old.seen_front
  pub floor : new.floor ≡ old.floor
  pub front_loads : new.front_loads ≡ old.front_loads
  pub live_given : new.live_given ≡ old.live_given
  pub looks : new.looks ≡ old.looks + 1
  pub read : new.read ≡ old.read
  pub found : StaysFound old new

-- the pass has read this value of the guarded word k
abbrev pub HasRead : ℕ → ℕ → List WordRead → Type 0
HasRead k v [] = ⊥
HasRead k v (r ∷ rs) = (r ≡ record { word = k; value = v }) ⊎ HasRead k v rs
