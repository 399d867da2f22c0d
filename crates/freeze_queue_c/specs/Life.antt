-- How queues and their handles come and go.
use Rattle.std.specs.Prelude.{◌≡◌, ℕ, ◌<◌, ◌&&◌, nat_eq, nat_lt, false, if◌then◌else◌, Option, Some, None, Result, Ok, Err, true, [], ◌∷◌, ◌++◌, length, replicate}
use Rattle.std.specs.Global.{Box}
use Rattle.percpu_core.specs.declared.limits.TheConstants.{SLOT_LIMIT}
use Rattle.queue_limits.specs.declared.fault.LimitFault.{LimitFault}
use Rattle.queue_core.specs.declared.queue.TheConstants.{MOST_TAGS}
use Rattle.percpu_gate.specs.declared.tried.Put.{Put}
use Rattle.bias_lanes.specs.declared.views.Stage.TheVariants as stages
use Rattle.queue_core.specs.BiasedTags.{BiasedFacts, IsPlainTag, queue_of, stage, is_plain, in_now, at_stage}
use Rattle.queue_core.specs.BiasedSteps.{LeavesByGate}
use Rattle.queue_core.specs.Queue.{TagFacts, first_tag, first_freezer}
use Rattle.c_answers.specs.declared.drawn_number.DrawnNumber.{DrawnNumber}
use Rattle.c_answers.specs.declared.misuse.Misuse.{Misuse}
use Rattle.c_answers.specs.declared.misuse.Misuse.TheVariants.{Closed, Open, Size, NoneWaits, Memory, Entered, Foreign, InUse}
use Rattle.c_answers.specs.Numbers.{number_of, put_number}
use Rattle.freeze_queue_c.specs.declared.plain_limits.PlainLimits.{PlainLimits}
use Rattle.freeze_queue_c.specs.declared.refusal.Refusal.{Refusal}
use Rattle.freeze_queue_c.specs.declared.refusal.Refusal.TheVariants.{OfLimits, OfMisuse}
use Rattle.freeze_queue_c.specs.Numbers.{done_number}
use Rattle.freeze_queue_c.specs.Opened.{TagOpened, FreezerOpened, Waits}
use Rattle.freeze_queue_c.specs.PlainLimits.{bounds_of, limit_refusal}

-- the number of a handle's queue, drawn when the queue was made; 0 if the handle is closed
abbrev pub tag_number : Option TagOpened → ℕ
tag_number None = 0
tag_number (Some t) = t.number.drawn

abbrev pub freezer_number : Option FreezerOpened → ℕ
freezer_number None = 0
freezer_number (Some f) = f.number.drawn

-- a new queue has 1 to 512 slots and 1 to 1,023 tags
abbrev pub size_misuse : ℕ → ℕ → Option Misuse
size_misuse slots tags = if nat_eq slots 0 then Some Size else (if nat_lt SLOT_LIMIT slots then Some Size else (if nat_eq tags 0 then Some Size else (if nat_lt MOST_TAGS tags then Some Size else None)))

-- why a queue isn't made: no queue may have these limits or these sizes
abbrev pub or_misuse : Option LimitFault → Option Misuse → Option Refusal
or_misuse (Some why) misuse = Some (OfLimits why)
or_misuse None (Some why) = Some (OfMisuse why)
or_misuse None None = None

abbrev pub new_refusal : PlainLimits → ℕ → ℕ → Option Refusal
new_refusal limits slots tags = or_misuse (limit_refusal limits) (size_misuse slots tags)

-- the freezer of a new queue, whose tags no handle has yet
pub record NewFreezer (number : DrawnNumber) (limits : PlainLimits) (slots tags : ℕ) (f : FreezerOpened) : Type 0 where
  pub number_given : f.number ≡ number
  pub slots_given : f.queue.gate.slots ≡ slots
  pub hardware_given : f.queue.hardware ≡ limits.hardware
  pub freezer : f.freezer ≡ first_freezer f.queue (bounds_of limits) tags
  pub waiting : f.waiting ≡ replicate tags (first_tag f.queue)

-- the result of making it
abbrev pub Makes : Option Refusal → (FreezerOpened → Type 0) → Result FreezerOpened Refusal → Type 0
Makes (Some why) fresh answer = answer ≡ Err why
Makes None fresh (Ok f) = fresh f
Makes None fresh (Err why) = why ≡ OfMisuse Memory

-- the effect on a handle of making a queue: the handle has to be closed, and stays closed if there is no memory
abbrev pub Made : Option Refusal → (FreezerOpened → Type 0) → Option FreezerOpened → Option FreezerOpened → Result (Unit {0}) Refusal → Type 0
Made refusal fresh (Some f) new answer = (answer ≡ Err (OfMisuse Open)) × (new ≡ Some f)
Made (Some why) fresh None new answer = (answer ≡ Err why) × (new ≡ None)
Made None fresh None new (Ok r) = (f : FreezerOpened) × (new ≡ Some f) × fresh f
Made None fresh None new (Err why) = (why ≡ OfMisuse Memory) × (new ≡ None)

-- the effect on a handle of making a queue with these numbers
abbrev pub HasMade : DrawnNumber → PlainLimits → ℕ → ℕ → Option FreezerOpened → Option FreezerOpened → Result (Unit {0}) Refusal → Type 0
HasMade number limits slots tags old new answer = Made (new_refusal limits slots tags) (NewFreezer number limits slots tags) old new answer

-- the number that C gets is that of a result of which this holds
abbrev pub TellsDone : (Result (Unit {0}) Refusal → Type 0) → ℕ → Type 0
TellsDone holds result = (answer : Result (Unit {0}) Refusal) × (result ≡ done_number answer) × holds answer

-- the effect of giving a tag: it is of this queue, has no bias, and isn't in
pub record IsGiven (old new : FreezerOpened) (t : TagOpened) : Type 0 where
  pub number : t.number ≡ old.number
  pub plain : TagFacts
  pub taken : old ≡ record new { waiting = new.waiting ++ plain ∷ [] }
  pub queue : t.queue ≡ old.queue
  pub waits : Waits old.queue plain
  pub tag : IsPlainTag t.tag plain
  pub out : in_now t.tag ≡ false

-- the next tag that no handle has, if there is one and memory for it. If there is none, that isn't reported as refused memory
abbrev pub Next : FreezerOpened → FreezerOpened → Result TagOpened Misuse → Type 0
Next old new (Ok t) = IsGiven old new t
Next old new (Err NoneWaits) = (old.waiting ≡ []) × (new ≡ old)
Next old new (Err why) = (why ≡ Memory) × (0 < length old.waiting) × (new ≡ old)

-- the same for a box
abbrev pub value_of : Result (Box TagOpened) Misuse → Result TagOpened Misuse
value_of (Ok b) = Ok b.value
value_of (Err why) = Err why

-- the effect of giving the next tag to a handle, which has to be closed
abbrev pub Gives : FreezerOpened → FreezerOpened → Option TagOpened → Option TagOpened → Result (Unit {0}) Misuse → Type 0
Gives old new (Some t) after answer = (answer ≡ Err Open) × (new ≡ old) × (after ≡ Some t)
Gives old new None after (Ok r) = (t : TagOpened) × (after ≡ Some t) × Next old new (Ok t)
Gives old new None after (Err why) = (after ≡ None) × Next old new (Err why)

-- the same for a freezer handle, which may be closed
abbrev pub Given : Option FreezerOpened → Option FreezerOpened → Option TagOpened → Option TagOpened → Result (Unit {0}) Misuse → Type 0
Given None new before after answer = (answer ≡ Err Closed) × (new ≡ None) × (after ≡ before)
Given (Some old) None before after answer = ⊥
Given (Some old) (Some new) before after answer = Gives old new before after answer

-- queues of one number are one queue
abbrev pub NumbersTell : FreezerOpened → Option TagOpened → Type 0
NumbersTell f None = Unit {0}
NumbersTell f (Some t) = f.number.counter ≡ t.number.counter → f.number.drawn ≡ t.number.drawn → t.queue ≡ f.queue

abbrev pub NumbersTellOn : Option FreezerOpened → Option TagOpened → Type 0
NumbersTellOn None t = Unit {0}
NumbersTellOn (Some f) t = NumbersTell f t

-- a tag that goes back is of the freezer's queue, which has a tag out, and isn't in
abbrev pub back_misuse : FreezerOpened → TagOpened → Option Misuse
back_misuse f t =
    if nat_lt (length f.waiting) f.freezer.tags && nat_eq f.number.counter t.number.counter && nat_eq f.number.drawn t.number.drawn
    then (if in_now t.tag then Some Entered else None)
    else Some Foreign

-- the effect of ending the bias of a tag that isn't in: it has left with this put, or was out before
pub record EndsBias (old plain : BiasedFacts) (put : Put) : Type 0 where
  pub own : queue_of plain ≡ queue_of old
  pub out : in_now plain ≡ false
  pub unbiased : stage plain ≡ stages.Unbiased
  pub steps : (slot : ℕ) × LeavesByGate slot put old plain

-- the freezer has the tag in hand: no use of handles leads there
abbrev pub InHandOf : TagOpened → TagOpened → Type 0
InHandOf old new = (is_plain old.tag ≡ false) × (new ≡ record old { tag = at_stage stages.Parked old.tag })

-- the effect on a handle of ending the bias of its tag
abbrev pub EndedBias : TagOpened → TagOpened → Option Put → Type 0
EndedBias old new (Some put) = (new ≡ record old { tag = new.tag }) × EndsBias old.tag new.tag put
EndedBias old new None = InHandOf old new

-- the effect of giving back the tag of a handle: it has no bias, and is the next tag to be given
abbrev pub GivesBackOpen : FreezerOpened → FreezerOpened → TagOpened → Option TagOpened → Result Put Misuse → Type 0
GivesBackOpen old new t after (Ok put) =
    (back_misuse old t ≡ None) × (after ≡ None) × (plain : BiasedFacts) × EndsBias t.tag plain put × (tag : TagFacts) × IsPlainTag plain tag × (new ≡ record old { waiting = old.waiting ++ tag ∷ [] })
GivesBackOpen old new t after (Err InUse) = (back_misuse old t ≡ None) × (new ≡ old) × (held : TagOpened) × (after ≡ Some held) × InHandOf t held
GivesBackOpen old new t after (Err why) = (back_misuse old t ≡ Some why) × (new ≡ old) × (after ≡ Some t)

abbrev pub GivesBack : FreezerOpened → FreezerOpened → Option TagOpened → Option TagOpened → Result Put Misuse → Type 0
GivesBack old new None after answer = (answer ≡ Err Closed) × (new ≡ old) × (after ≡ None)
GivesBack old new (Some t) after answer = GivesBackOpen old new t after answer

-- the same for the two handles
abbrev pub GivenBack : Option FreezerOpened → Option FreezerOpened → Option TagOpened → Option TagOpened → Result Put Misuse → Type 0
GivenBack None new before after answer = (answer ≡ Err Closed) × (new ≡ None) × (after ≡ before)
GivenBack (Some old) None before after answer = ⊥
GivenBack (Some old) (Some new) before after answer = GivesBack old new before after answer

-- the number that C gets is that of a result of which this holds
abbrev pub TellsPut : (Result Put Misuse → Type 0) → ℕ → Type 0
TellsPut holds result = (answer : Result Put Misuse) × (result ≡ number_of put_number answer) × holds answer
