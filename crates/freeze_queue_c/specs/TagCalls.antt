-- What C may do wrong with a tag, and the effect of each of its calls.
use Rattle.std.specs.Prelude.{◌≡◌, ℕ, Bool, true, false, not, nat_le, if◌then◌else◌, Option, Some, None}
use Rattle.percpu_gate.specs.declared.tried.Put.{Put}
use Rattle.percpu_gate.specs.declared.tried.Put.TheVariants.{NotLast}
use Rattle.bias_lanes.specs.declared.views.Stage.TheVariants as stages
use Rattle.bias_lanes.specs.Seats.{at, FindsParked}
use Rattle.queue_core.specs.declared.biased.BiasedEntry.{BiasedEntry}
use Rattle.queue_core.specs.Biased.{Fits}
use Rattle.queue_core.specs.BiasedTags.{IsBiased, queue_of, stage, is_plain, in_now, at_stage, says_in, says_in_hand}
use Rattle.queue_core.specs.BiasedSteps.{EntersByGate, LooksInByGate, LeavesAtGate, ParksAt}
use Rattle.c_answers.specs.declared.misuse.Misuse.{Misuse}
use Rattle.c_answers.specs.declared.misuse.Misuse.TheVariants.{Slot, Entered, NotEntered}
use Rattle.freeze_queue_c.specs.declared.plain_limits.PlainLimits.{PlainLimits}
use Rattle.freeze_queue_c.specs.PlainLimits.{as_bounds}
use Rattle.freeze_queue_c.specs.Opened.{TagOpened}

-- there is no such slot, or else this misuse
abbrev pub slot_misuse : ℕ → TagOpened → Option Misuse → Option Misuse
slot_misuse slot t else_this = if nat_le t.queue.gate.slots slot then Some Slot else else_this

-- a tag that enters isn't in
abbrev pub enter_misuse : ℕ → TagOpened → Option Misuse
enter_misuse slot t = slot_misuse slot t (if in_now t.tag then Some Entered else None)

-- a tag whose limits are read is in
abbrev pub limits_misuse : TagOpened → Option Misuse
limits_misuse t = if in_now t.tag then None else Some NotEntered

-- a tag that leaves is in
abbrev pub leave_misuse : ℕ → TagOpened → Option Misuse
leave_misuse slot t = slot_misuse slot t (limits_misuse t)

-- a handle still leads to the same queue
abbrev pub SameQueue : TagOpened → TagOpened → Type 0
SameQueue old new = (new.number ≡ old.number) × (new.queue ≡ old.queue)

-- the effect of `try_enter` on this slot
pub record TriedToEnter (slot : ℕ) (old new : TagOpened) (r : BiasedEntry) : Type 0 where
  pub same : SameQueue old new
  pub own : queue_of new.tag ≡ queue_of old.tag
  pub entered : in_now new.tag ≡ says_in r
  -- if the tag entered by its lane, its reference was parked at the load that let it in, and nothing else changes
  pub by_lane : stage new.tag ≡ stages.Entered → new.tag ≡ at_stage stages.Entered old.tag
  pub held : stage new.tag ≡ stages.Entered → FindsParked Fits (at stages.Trying old.tag.bias)
  pub by_gate : says_in r ≡ false → is_plain new.tag ≡ not (says_in_hand r)
  pub in_hand : says_in_hand r ≡ true → new.tag ≡ at_stage stages.Parked old.tag
  -- a tag with no bias afterwards looked once at the gate, or tried once on this slot; by its lane a tag takes no step there
  pub steps : is_plain new.tag ≡ true → EntersByGate slot old.queue r old.tag new.tag

-- the effect of a look on this slot into a queue that may be frozen
pub record TriedToLookIn (slot : ℕ) (old new : TagOpened) (r : BiasedEntry) : Type 0 where
  pub same : SameQueue old new
  pub own : queue_of new.tag ≡ queue_of old.tag
  pub entered : in_now new.tag ≡ says_in r
  pub by_gate : is_plain new.tag ≡ not (says_in_hand r)
  pub in_hand : says_in_hand r ≡ true → new.tag ≡ at_stage stages.Parked old.tag
  pub steps : is_plain new.tag ≡ true → LooksInByGate slot old.queue r old.tag new.tag

-- the effect of leaving on this slot; `keep` says whether a tag with no bias is to be parked
pub record Leaves (slot : ℕ) (keep : Bool) (old new : TagOpened) (put : Put) : Type 0 where
  pub same : SameQueue old new
  pub own : queue_of new.tag ≡ queue_of old.tag
  pub out : in_now new.tag ≡ false
  pub limits : new.tag.limits ≡ old.tag.limits
  pub parked : is_plain new.tag ≡ false → put ≡ NotLast
  pub biased : stage old.tag ≡ stages.Entered → stage new.tag ≡ stages.Idle → new.tag ≡ at_stage stages.Idle old.tag
  pub keeps : stage new.tag ≡ stages.Idle → is_plain old.tag ≡ true → keep ≡ true
  -- a tag with no bias afterwards put once on this slot; by its lane a tag takes no step there
  pub steps : is_plain new.tag ≡ true → LeavesAtGate slot keep put old.tag new.tag
  pub parks : is_plain old.tag ≡ true → stage new.tag ≡ stages.Idle → ParksAt stages.Idle slot old.tag new.tag

-- the limits that a tag that is in reads
pub record ToldLimits (old new : TagOpened) (told : PlainLimits) : Type 0 where
  pub same : new ≡ old
  pub value : as_bounds told ≡ old.tag.limits
  pub kept : IsBiased old.tag
