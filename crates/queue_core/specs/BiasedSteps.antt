-- What a call of a biased tag does at the gate: with which pass, on which slot and by which steps. By its lane a tag takes no step there.
use Rattle.std.specs.Prelude.{◌≡◌, ℕ, ◌+◌, ◌-◌, ◌⊎◌, Bool, true, false, Option, Some, None, is_some}
use Rattle.queue_limits.specs.Bounds.{Bounds}
use Rattle.percpu_core.specs.Views.{count}
use Rattle.percpu_core.specs.declared.pass_event.PassEvent.TheVariants as events
use Rattle.percpu_gate.specs.declared.tried.Put.{Put}
use Rattle.percpu_gate.specs.declared.tried.Put.TheVariants.{NotLast}
use Rattle.percpu_gate.specs.declared.tried.Tried.{Tried}
use Rattle.percpu_gate.specs.declared.tried.Tried.TheVariants.{Given, Refused}
use Rattle.percpu_gate.specs.Calls.{is_refused, taken, after_put, has_dead, has_zero, TryLeaves, TryFinds, LiveTryFinds, TryMeets, PassLook}
use Rattle.percpu_gate.specs.Seats.{GateFacts, PassFacts, dead_at}
use Rattle.percpu_gate.specs.Steps.{TrySteps, PutSteps, LookSteps}
use Rattle.bias_lanes.specs.declared.views.Stage.{Stage}
use Rattle.bias_lanes.specs.declared.views.Stage.TheVariants.{Unbiased, Parked, Over}
use Rattle.bias_lanes.specs.Seats.{LaneFacts, at, parking, owner_view, TakesIfParked}
use Rattle.queue_core.specs.declared.biased.BiasedEntry.{BiasedEntry}
use Rattle.queue_core.specs.declared.parked.ParkedPass.{ParkedPass}
use Rattle.queue_core.specs.AtTheGate.{AreInForce}
use Rattle.queue_core.specs.Biased.{Fits}
use Rattle.queue_core.specs.BiasedTags.{BiasedFacts, is_plain, is_unbiased, refusal_of, says_in}
use Rattle.queue_core.specs.Queue.{QueueFacts}
use Rattle.queue_core.specs.Readings.{is_in, limits_told, AskSteps}

-- the lane of a biased tag
abbrev pub Bias : Type 0
Bias = LaneFacts ParkedPass GateFacts

-- the pass with which a call goes to the gate: the one in hand, or the one that its exchange took from the lane's cell
pub record Brings (bias : Bias) (held : Option PassFacts) (pass : PassFacts) : Type 0 where
  pub hand : is_unbiased bias.view.stage ≡ true → held ≡ Some pass
  pub cell : is_unbiased bias.view.stage ≡ false → (parked : ParkedPass) × (parked.pass ≡ pass) × TakesIfParked Fits (owner_view (at Parked bias)) bias.view.lane (Some parked)

-- the result of a try: it was given, or refused with this put
abbrev pub as_try : Option Put → Tried
as_try None = Given
as_try (Some put) = Refused put

-- one load of the shared word finds DEAD set, or clear
pub record LooksAtGate (gate : GateFacts) (dead : Bool) (from to : PassFacts) : Type 0 where
  pub own : to.gate ≡ from.gate
  pub look : (look : PassLook gate from.view to.view) × (dead ≡ dead_at look.moment)
  pub steps : LookSteps (λ s. s.dead) dead from.steps to.steps

-- one put on this slot
pub record PutsAtGate (slot : ℕ) (put : Put) (from to : PassFacts) : Type 0 where
  pub own : to.gate ≡ from.gate
  pub view : to.view ≡ after_put put (from.view.standing.held - 1) from.view
  pub steps : PutSteps slot 1 put from.steps to.steps

-- a pass that is in stays after one look, or leaves on this slot
abbrev pub StaysAtGate : ℕ → GateFacts → Option Put → PassFacts → PassFacts → Type 0
StaysAtGate slot gate None from to = LooksAtGate gate false from to
StaysAtGate slot gate (Some put) from to = (looked : PassFacts) × LooksAtGate gate true from looked × PutsAtGate slot put looked to

-- a pass that is out makes one try on this slot, which succeeds if the gate is live
pub record TriesAtGate (slot : ℕ) (gate : GateFacts) (r : Tried) (from to : PassFacts) : Type 0 where
  pub own : to.gate ≡ from.gate
  pub leaves : TryLeaves from.view to.view r
  pub steps : TrySteps events.AddLive slot r from.steps to.steps
  pub finds : LiveTryFinds gate slot from.view r
  pub counted : to.view.live_given ≡ from.view.live_given + taken r
  pub meets : TryMeets gate has_dead from.view to.view (is_refused r)
  pub times : to.view.found_dead_times ≡ from.view.found_dead_times + count (is_refused r)

-- to look in, it makes one try on this slot that is refused only at zero
pub record LooksInAtGate (slot : ℕ) (gate : GateFacts) (r : Tried) (from to : PassFacts) : Type 0 where
  pub own : to.gate ≡ from.gate
  pub leaves : TryLeaves from.view to.view r
  pub steps : TrySteps events.AddTry slot r from.steps to.steps
  pub finds : TryFinds gate from.view r
  pub meets : TryMeets gate has_zero from.view to.view (is_refused r)
  pub times : to.view.found_zero_times ≡ from.view.found_zero_times + count (is_refused r)

-- a pass enters, or stays if it is in already; or it is refused with this put
pub record ComesIn (slot : ℕ) (gate : GateFacts) (refused : Option Put) (from to : PassFacts) : Type 0 where
  pub look : is_in from.view ≡ true → StaysAtGate slot gate refused from to
  pub tries : is_in from.view ≡ false → TriesAtGate slot gate (as_try refused) from to
  pub dead : is_some refused ≡ true → to.view.found_dead ≡ true

-- to look in, a pass takes no step if it is in already
pub record LooksIn (slot : ℕ) (gate : GateFacts) (refused : Option Put) (from to : PassFacts) : Type 0 where
  pub stays : is_in from.view ≡ true → (refused ≡ None) × (to ≡ from)
  pub tries : is_in from.view ≡ false → LooksInAtGate slot gate (as_try refused) from to
  pub zero : is_some refused ≡ true → to.view.found_zero ≡ true

-- a pass that is in reads the limits, by one load of each guarded word
pub record AsksAtGate (queue : QueueFacts) (limits : Bounds) (from to : PassFacts) : Type 0 where
  pub own : to.gate ≡ from.gate
  pub view : to.view ≡ record from.view { read = to.view.read }
  pub told : limits_told queue.hardware to.view ≡ Some limits
  pub steps : AskSteps from.steps to.steps
  pub in_force : AreInForce queue.gate queue.hardware from.view limits

-- a call that comes to the gate with a pass, which is in hand afterwards; a request that is in reads the limits
pub record EntersWith (comes : GateFacts → Option Put → PassFacts → PassFacts → Type 0) (queue : QueueFacts) (r : BiasedEntry) (old new : BiasedFacts) : Type 0 where
  pub from : PassFacts
  pub brings : Brings old.bias old.pass from
  pub there : PassFacts
  pub came : comes queue.gate (refusal_of r) from there
  pub to : PassFacts
  pub asks : says_in r ≡ true → AsksAtGate queue new.limits there to
  pub refused : says_in r ≡ false → (to ≡ there) × (new.limits ≡ old.limits)
  pub leaves : new ≡ record old { bias = at Unbiased old.bias; pass = Some to; limits = new.limits }

-- an entry by the gate on this slot
abbrev pub EntersByGate : ℕ → QueueFacts → BiasedEntry → BiasedFacts → BiasedFacts → Type 0
EntersByGate slot = EntersWith (ComesIn slot)

-- an entry to look in
abbrev pub LooksInByGate : ℕ → QueueFacts → BiasedEntry → BiasedFacts → BiasedFacts → Type 0
LooksInByGate slot = EntersWith (LooksIn slot)

-- a pass puts its reference once, on this slot, unless it has left already
pub record PutsOnce (slot : ℕ) (put : Put) (from to : PassFacts) : Type 0 where
  pub once : is_in from.view ≡ true → PutsAtGate slot put from to
  pub left : is_in from.view ≡ false → (put ≡ NotLast) × (to ≡ from)

-- a leave by the gate
pub record LeavesByGate (slot : ℕ) (put : Put) (old new : BiasedFacts) : Type 0 where
  pub from : PassFacts
  pub brings : Brings old.bias old.pass from
  pub to : PassFacts
  pub puts : PutsOnce slot put from to
  pub leaves : new ≡ record old { bias = at Unbiased old.bias; pass = Some to }

-- a pass is parked as it is, with the slot on which the freezer leaves with it. Its tag's stage is then this one
pub record ParksAt (now : Stage) (slot : ℕ) (old new : BiasedFacts) : Type 0 where
  pub pass : PassFacts
  pub parked : ParkedPass
  pub is : old.pass ≡ Some pass
  pub as_it_is : (parked.pass ≡ pass) × (parked.slot ≡ slot)
  pub leaves : new ≡ record old { bias = at now (parking parked new.bias.view.bias old.bias); pass = None }

-- a tag that loads the epoch notes the bias that it would have
abbrev pub loading : ℕ → BiasedFacts → BiasedFacts
loading bias t = record t { bias = record t.bias { view = record t.bias.view { bias = bias } } }

-- a tag that is to be parked isn't, since the queue is frozen; or its bias is over at once
abbrev pub ParksInVain : ℕ → BiasedFacts → BiasedFacts → Type 0
ParksInVain slot old new = (new ≡ loading new.bias.view.bias old) ⊎ ParksAt Over slot old new

-- a leave with the pass that the call has, at once or after it has parked it in vain
abbrev pub LeavesAtGate : ℕ → Bool → Put → BiasedFacts → BiasedFacts → Type 0
LeavesAtGate slot keep put old new =
    LeavesByGate slot put old new ⊎ ((keep ≡ true) × (is_plain old ≡ true) × (mid : BiasedFacts) × ParksInVain slot old mid × LeavesByGate slot put mid new)
