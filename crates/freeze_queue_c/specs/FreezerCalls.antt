-- What C may do wrong with the freezer, and the effect of each of its calls.
use Rattle.std.specs.Prelude.{◌≡◌, ℕ, ◌+◌, ◌<◌, ◌==◌, Bool, true, nat_lt, nat_eq, if◌then◌else◌, Option, Some, None, Result, Ok, Err, IfOk, OnOk, OnErr}
use Rattle.percpu_words.specs.declared.mode.Mode.{Mode}
use Rattle.percpu_words.specs.declared.mode.Mode.TheVariants as modes
use Rattle.percpu_gate.specs.declared.tried.Put.TheVariants.{Last, NotLast}
use Rattle.percpu_gate.specs.Seats.{FindsZero}
use Rattle.queue_limits.specs.Bounds.{Bounds}
use Rattle.queue_limits.specs.declared.fault.LimitFault.{LimitFault}
use Rattle.queue_core.specs.declared.fault.FreezeFault.{FreezeFault}
use Rattle.queue_core.specs.declared.freezer.Frozen.{Frozen}
use Rattle.queue_core.specs.declared.freezer.Thawed.{Thawed}
use Rattle.queue_core.specs.Biased.{DropsLast}
use Rattle.queue_core.specs.Queue.{QueueFacts, FreezerFacts, IsFreezer, after_freeze, after_look, after_mode, after_set, after_thaw, HasThawed, freeze_refusal, thaw_refusal, fault_of}
use Rattle.queue_core.specs.Sets.{LooksForDrained}
use Rattle.c_answers.specs.declared.misuse.Misuse.{Misuse}
use Rattle.c_answers.specs.declared.misuse.Misuse.TheVariants as misuses
use Rattle.c_answers.specs.Numbers.{number_of}
use Rattle.c_answers.specs.Ran.{RanOn}
use Rattle.freeze_queue_c.specs.declared.begun.Begun.{Begun}
use Rattle.freeze_queue_c.specs.declared.plain_limits.PlainLimits.{PlainLimits}
use Rattle.freeze_queue_c.specs.declared.refusal.Refusal.{Refusal}
use Rattle.freeze_queue_c.specs.declared.refusal.Refusal.TheVariants.{OfLimits, OtherHardware, OfQueue}
use Rattle.freeze_queue_c.specs.Numbers.{queue_number}
use Rattle.freeze_queue_c.specs.Opened.{FreezerOpened}
use Rattle.freeze_queue_c.specs.PlainLimits.{as_bounds, bounds_of, limit_refusal}

-- the same freezer with these facts
abbrev pub knowing : FreezerOpened → FreezerFacts → FreezerOpened
knowing f facts = record f { freezer = facts }

-- the effect of a call that the queue may refuse: nothing changes, or this holds
abbrev pub OrRefused : {A : Type 0} → FreezerOpened → FreezerOpened → (A → Type 0) → Result A FreezeFault → Type 0
OrRefused old new left (Ok a) = left a
OrRefused old new left (Err why) = new ≡ old

-- the effect of a look for a drained queue
pub record Looked (queue : QueueFacts) (old new : FreezerFacts) (result : Bool) : Type 0 where
  pub look : new ≡ after_look result old
  pub found : FindsZero queue.gate old.seat result
  pub known : old.drained ≡ true → result ≡ true
  pub frozen : result ≡ true → 0 < old.depth

-- the effect of a freeze that has started: then it looks whether the queue is drained
pub record HasBegun (old new : FreezerOpened) (b : Begun) : Type 0 where
  pub same : new ≡ knowing old new.freezer
  pub mid : FreezerFacts
  pub froze : Frozen
  pub depth : b.depth ≡ froze.depth
  pub frozen : (froze.depth ≡ old.freezer.depth + 1) × (mid ≡ after_freeze froze.put old.freezer)
  pub nested : 0 < old.freezer.depth → froze.put ≡ NotLast
  pub reclaimed : froze.reclaimed ≡ Last → (old.freezer.depth ≡ 0) × DropsLast old.queue
  pub looked : Looked old.queue mid new.freezer b.drained

-- the effect of `start_freeze`
pub record StartedFreeze (old new : FreezerOpened) (r : Result Begun FreezeFault) : Type 0 where
  pub refused : fault_of r ≡ freeze_refusal old.freezer
  pub begun : OrRefused old new (HasBegun old new) r

-- the effect of `thaw`
pub record Thaws (old new : FreezerOpened) (r : Result Thawed FreezeFault) : Type 0 where
  pub same : new ≡ knowing old new.freezer
  pub refused : fault_of r ≡ thaw_refusal old.freezer
  pub unchanged : OnErr r (new.freezer ≡ old.freezer)
  pub thawed : IfOk r (λ t. HasThawed old.queue.gate old.freezer new.freezer t.depth)
  pub live : IfOk r (λ t. (t.depth ≡ new.freezer.depth) × (t.live ≡ new.freezer.live))
  -- a drain that the freezer knew of is counted
  pub drained : IfOk r (λ t. old.freezer.drained ≡ true → new.freezer ≡ after_thaw true old.freezer)

-- the effect of a look for a drained queue on an open freezer
pub record LookedForDrained (old new : FreezerOpened) (found : Bool) : Type 0 where
  pub same : new ≡ knowing old new.freezer
  pub looked : Looked old.queue old.freezer new.freezer found

-- why limits are refused before the queue sees them: no queue may have them, or they are for other hardware
abbrev pub or_other : Option LimitFault → ℕ → ℕ → Option Refusal
or_other (Some why) given own = Some (OfLimits why)
or_other None given own = if given == own then None else Some OtherHardware

abbrev pub input_refusal : PlainLimits → FreezerOpened → Option Refusal
input_refusal limits f = or_other (limit_refusal limits) limits.hardware f.queue.hardware

-- the limits that are to be set, or why they are refused
abbrev pub Sought : Option Refusal → Bounds → Result Bounds Refusal → Type 0
Sought refusal bounds (Ok limits) = (refusal ≡ None) × (limits ≡ bounds)
Sought refusal bounds (Err why) = refusal ≡ Some why

-- the effect of setting valid limits
pub record SetAtQueue (limits : Bounds) (old new : FreezerFacts) (r : Result (Unit {0}) FreezeFault) : Type 0 where
  pub looks : LooksForDrained old (fault_of r)
  pub unchanged : OnErr r (new ≡ old)
  pub set : OnOk r (new ≡ after_set limits old)

abbrev pub SetsHere : Bounds → FreezerOpened → FreezerOpened → Result (Unit {0}) FreezeFault → Type 0
SetsHere limits old new r = (new ≡ knowing old new.freezer) × SetAtQueue limits old.freezer new.freezer r

-- the effect of a set: the limits are checked first, then the queue looks whether it is drained
abbrev pub Sets : Option Refusal → Bounds → FreezerOpened → FreezerOpened → Result (Unit {0}) Refusal → Type 0
Sets (Some why) limits old new r = (r ≡ Err why) × (new ≡ old)
Sets None limits old new (Ok x) = SetsHere limits old new (Ok x)
Sets None limits old new (Err (OfQueue why)) = SetsHere limits old new (Err why)
Sets None limits old new (Err why) = ⊥

-- the effect of `set`
pub record HasSet (limits : PlainLimits) (old new : FreezerOpened) (r : Result (Unit {0}) Refusal) : Type 0 where
  pub set : Sets (input_refusal limits old) (bounds_of limits) old new r

-- a mode is 0 or 1
abbrev pub mode_misuse : ℕ → FreezerOpened → Option Misuse
mode_misuse mode f = if nat_lt 1 mode then Some misuses.Mode else None

abbrev pub mode_named : ℕ → Mode
mode_named mode = if nat_eq mode 0 then modes.Slots else modes.Atomic

-- the effect of `mode`
pub record HasMode (mode : ℕ) (old new : FreezerOpened) (r : Unit {0}) : Type 0 where
  pub left : new ≡ knowing old (after_mode (mode_named mode) old.freezer)

-- the depth that the freezer returns
pub record ToldDepth (old new : FreezerOpened) (told : ℕ) : Type 0 where
  pub same : new ≡ old
  pub value : told ≡ old.freezer.depth
  pub kept : IsFreezer old.freezer

-- the limits in force that the freezer returns
pub record ToldInForce (old new : FreezerOpened) (told : PlainLimits) : Type 0 where
  pub same : new ≡ old
  pub value : as_bounds told ≡ old.freezer.limits
  pub kept : IsFreezer old.freezer

-- a freeze that has started returns 0, or 4 if the queue is drained; a thaw returns 0, or 5 if the queue is live again
abbrev pub begun_number : Begun → ℕ
begun_number b = if b.drained then 4 else 0

abbrev pub thawed_number : Thawed → ℕ
thawed_number t = if t.live then 5 else 0

abbrev pub begun_depth : Begun → ℕ
begun_depth b = b.depth

abbrev pub thawed_depth : Thawed → ℕ
thawed_depth t = t.depth

module _ {A : Type 0} where
  -- the depth that is written: that of the result, or the old value if the call is refused
  abbrev pub depth_written : (A → ℕ) → Result (Result A FreezeFault) Misuse → ℕ → ℕ
  depth_written depth (Ok (Ok a)) there = depth a
  depth_written depth (Ok (Err why)) there = there
  depth_written depth (Err why) there = there

  -- the effect of a call that changes the depth on a handle, which may be closed, by the number that C gets
  abbrev pub Counts : (A → ℕ) → (A → ℕ) → (FreezerOpened → FreezerOpened → Result A FreezeFault → Type 0) → Option FreezerOpened → Option FreezerOpened → ℕ → ℕ → ℕ → Type 0
  Counts number depth leaves old new there here result =
      (answer : Result (Result A FreezeFault) Misuse) × (result ≡ number_of (queue_number number) answer) × (here ≡ depth_written depth answer there) × RanOn (λ _. None) leaves old new answer
