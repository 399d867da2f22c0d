-- What C may do wrong with a pass, and the effect of each of its calls.
use Rattle.std.specs.Prelude.{◌≡◌, ℕ, ◌+◌, ◌-◌, ◌%◌, ◌<◌, ◌≤◌, Bool, true, false, nat_le, nat_lt, nat_eq, if◌then◌else◌, Option, Some, None, ◌∷◌}
use Rattle.percpu_core.specs.declared.limits.TheConstants.{HELD_LIMIT}
use Rattle.percpu_core.specs.declared.pass_event.PassEvent.TheVariants as events
use Rattle.percpu_core.specs.declared.reply.Reply.TheVariants.{Number}
use Rattle.percpu_core.specs.PassLearns.{next_even}
use Rattle.percpu_core.specs.Views.{count}
use Rattle.percpu_gate.specs.declared.tried.Put.{Put}
use Rattle.percpu_gate.specs.declared.tried.Tried.{Tried}
use Rattle.percpu_gate.specs.declared.tried.Tried.TheVariants.{Given}
use Rattle.percpu_gate.specs.Seats.{PassStep, dead_at, zero_at}
use Rattle.percpu_gate.specs.Steps.{TrySteps, GetSteps, PutSteps, LookSteps}
use Rattle.percpu_gate.specs.Calls.{is_refused, taken, after_put, has_dead, has_zero, TryLeaves, TryFinds, LiveTryFinds, TryMeets, GetLeaves, PassLook, LookLeaves, HasRead}
use Rattle.c_answers.specs.declared.misuse.Misuse.{Misuse}
use Rattle.c_answers.specs.declared.misuse.Misuse.TheVariants.{Slot, HeldFull, NotHeld, Amount, Word}
use Rattle.percpu_gate_c.specs.declared.open_pass.TheConstants.{WORDS}
use Rattle.percpu_gate_c.specs.Opened.{PassOpened}

-- the references that a pass holds
abbrev pub held_by : PassOpened → ℕ
held_by p = p.pass.view.standing.held

-- there is no such slot, or else this misuse
abbrev pub slot_misuse : ℕ → PassOpened → Option Misuse → Option Misuse
slot_misuse slot p else_this = if nat_le p.pass.gate.slots slot then Some Slot else else_this

-- a try needs room for one reference more
abbrev pub take_misuse : ℕ → PassOpened → Option Misuse
take_misuse slot p = slot_misuse slot p (if nat_le HELD_LIMIT (held_by p) then Some HeldFull else None)

-- `get` needs a reference that is held, and room for n more
abbrev pub get_misuse : ℕ → ℕ → PassOpened → Option Misuse
get_misuse slot n p = slot_misuse slot p (if nat_eq (held_by p) 0 then Some NotHeld else (if nat_eq n 0 then Some Amount else (if nat_lt HELD_LIMIT (held_by p + n) then Some HeldFull else None)))

-- `put` drops what is held
abbrev pub put_misuse : ℕ → ℕ → PassOpened → Option Misuse
put_misuse slot n p = slot_misuse slot p (if nat_eq n 0 then Some Amount else (if nat_lt (held_by p) n then Some NotHeld else None))

-- a guarded word is read by a pass that holds a reference
abbrev pub word_misuse : ℕ → PassOpened → Option Misuse
word_misuse k p = if nat_eq (held_by p) 0 then Some NotHeld else (if nat_le WORDS k then Some Word else None)

-- the pass stays one of its gate
pub record SameGate (old new : PassOpened) : Type 0 where
  pub number : new.number ≡ old.number
  pub gate : new.pass.gate ≡ old.pass.gate

-- the effect of `try_get`
pub record TryGot (slot : ℕ) (old new : PassOpened) (r : Tried) : Type 0 where
  pub same : SameGate old new
  pub leaves : TryLeaves old.pass.view new.pass.view r
  -- it looked at this slot once, and counted on the shared word only if the slot was closed or full, or the exchange was lost
  pub steps : TrySteps events.AddTry slot r old.pass.steps new.pass.steps
  pub finds : TryFinds old.pass.gate old.pass.view r
  pub again : 0 < old.pass.view.standing.held → r ≡ Given
  -- a refusal found ZERO, and so DEAD, at the one addition of this call, and the pass counts both
  pub meets : TryMeets old.pass.gate has_zero old.pass.view new.pass.view (is_refused r)
  pub times : new.pass.view.found_zero_times ≡ old.pass.view.found_zero_times + count (is_refused r)
  pub both : is_refused r ≡ true → new.pass.view.found_dead_times ≡ old.pass.view.found_dead_times + 1
  pub ground : is_refused r ≡ true → (new.pass.view.found_dead ≡ true) × (new.pass.view.found_zero ≡ true)

-- the effect of `try_get_live`
pub record LiveTryGot (slot : ℕ) (old new : PassOpened) (r : Tried) : Type 0 where
  pub same : SameGate old new
  pub leaves : TryLeaves old.pass.view new.pass.view r
  pub steps : TrySteps events.AddLive slot r old.pass.steps new.pass.steps
  pub finds : LiveTryFinds old.pass.gate slot old.pass.view r
  pub floor : new.pass.view.floor ≡ (if is_refused r then old.pass.view.floor else next_even old.pass.view.floor)
  pub live : new.pass.view.live_given ≡ old.pass.view.live_given + taken r
  -- a refusal found DEAD at the one addition of this call, and the pass counts it
  pub meets : TryMeets old.pass.gate has_dead old.pass.view new.pass.view (is_refused r)
  pub times : new.pass.view.found_dead_times ≡ old.pass.view.found_dead_times + count (is_refused r)
  pub ground : is_refused r ≡ true → new.pass.view.found_dead ≡ true
  -- once the odd front of a kill was seen, what is given belongs to a later life
  pub later : is_refused r ≡ false → old.pass.view.seen_front % 2 ≡ 1 → old.pass.view.seen_front + 1 ≤ new.pass.view.floor

-- the effect of `get`
pub record Got (slot n : ℕ) (old new : PassOpened) (r : Unit {0}) : Type 0 where
  pub same : SameGate old new
  pub leaves : GetLeaves old.pass.view new.pass.view n
  pub steps : GetSteps slot n old.pass.steps new.pass.steps

-- the effect of `put`
pub record HasPut (slot n : ℕ) (old new : PassOpened) (r : Put) : Type 0 where
  pub same : SameGate old new
  pub view : new.pass.view ≡ after_put r (old.pass.view.standing.held - n) old.pass.view
  pub steps : PutSteps slot n r old.pass.steps new.pass.steps

-- the effect of reading the front
pub record ReadFront (old new : PassOpened) (front : ℕ) : Type 0 where
  pub same : SameGate old new
  pub step : PassStep old.pass.gate events.LoadFront old.pass.view new.pass.view (Number front)
  pub steps : new.pass.steps ≡ (events.LoadFront, Number front) ∷ old.pass.steps
  pub view : new.pass.view ≡ record old.pass.view { seen_front = front; floor = front; front_loads = old.pass.view.front_loads + 1 }
  pub floor : old.pass.view.floor ≤ front
  pub greatest : old.pass.view.seen_front ≤ front

-- the effect of a look for the mark of a kill
pub record LookedForDead (old new : PassOpened) (found : Bool) : Type 0 where
  pub same : SameGate old new
  pub step : (look : PassLook old.pass.gate old.pass.view new.pass.view) × (found ≡ dead_at look.moment)
  pub steps : LookSteps (λ s. s.dead) found old.pass.steps new.pass.steps
  pub leaves : LookLeaves old.pass.view new.pass.view
  pub times : new.pass.view.found_dead_times ≡ old.pass.view.found_dead_times + count found
  pub ground : found ≡ true → new.pass.view.found_dead ≡ true

-- the effect of a look for zero
pub record LookedForZero (old new : PassOpened) (found : Bool) : Type 0 where
  pub same : SameGate old new
  pub step : (look : PassLook old.pass.gate old.pass.view new.pass.view) × (found ≡ zero_at look.moment)
  pub steps : LookSteps (λ s. s.zero) found old.pass.steps new.pass.steps
  pub leaves : LookLeaves old.pass.view new.pass.view
  pub times : new.pass.view.found_zero_times ≡ old.pass.view.found_zero_times + count found
  pub ground : found ≡ true → (new.pass.view.found_zero ≡ true) × (new.pass.view.standing.held ≡ 0)

-- the effect of reading the guarded word k
pub record ReadWord (k : ℕ) (old new : PassOpened) (told : ℕ) : Type 0 where
  pub same : SameGate old new
  pub step : PassStep old.pass.gate (events.LoadWord k) old.pass.view new.pass.view (Number told)
  pub steps : new.pass.steps ≡ (events.LoadWord k, Number told) ∷ old.pass.steps
  pub view : new.pass.view ≡ record old.pass.view { read = record { word = k; value = told } ∷ old.pass.view.read }
  -- it is what the pass has read before, if it holds a reference since then
  pub again : (v : ℕ) → HasRead k v old.pass.view.read → told ≡ v
