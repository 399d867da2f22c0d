-- A biased tag, as a caller sees it.
use Rattle.std.specs.Prelude.{◌≡◌, ℕ, ◌≤◌, Bool, true, false, Option, Some, None, is_some, IfSome}
use Rattle.queue_limits.specs.Bounds.{Bounds}
use Rattle.percpu_gate.specs.declared.tried.Put.{Put}
use Rattle.percpu_gate.specs.Seats.{GateFacts, PassFacts}
use Rattle.bias_lanes.specs.declared.views.Stage.{Stage}
use Rattle.bias_lanes.specs.declared.views.Stage.TheVariants.{Unbiased, Parked, Idle, Trying, Entered, Leaving, Over}
use Rattle.bias_lanes.specs.Seats.{LaneFacts, at}
use Rattle.queue_core.specs.declared.biased.BiasedEntry.{BiasedEntry}
use Rattle.queue_core.specs.declared.biased.BiasedEntry.TheVariants as entries
use Rattle.queue_core.specs.declared.parked.ParkedPass.{ParkedPass}
use Rattle.queue_core.specs.Queue.{QueueFacts, TagFacts}
use Rattle.queue_core.specs.Readings.{is_in, limits_told, tag_facts}

-- What a biased tag knows: its lane, its pass while that is in hand, and the limits that it read last
pub record BiasedFacts : Type 0 where
  pub bias : LaneFacts ParkedPass GateFacts
  pub pass : Option PassFacts
  pub limits : Bounds
  pub hardware : ℕ

-- the queue of a biased tag: its lanes are those of a gate
abbrev pub queue_of : BiasedFacts → QueueFacts
queue_of t = record { gate = t.bias.lanes.key; hardware = t.hardware; lanes = t.bias.lanes }

abbrev pub stage : BiasedFacts → Stage
stage t = t.bias.view.stage

abbrev pub is_unbiased : Stage → Bool
is_unbiased Unbiased = true
is_unbiased Parked = false
is_unbiased Idle = false
is_unbiased Trying = false
is_unbiased Entered = false
is_unbiased Leaving = false
is_unbiased Over = false

-- it has no bias: its pass is in hand
abbrev pub is_plain : BiasedFacts → Bool
is_plain t = is_unbiased (stage t)

-- no request is in by the lane
abbrev pub not_in_lane : Stage → Bool
not_in_lane Unbiased = true
not_in_lane Parked = true
not_in_lane Idle = true
not_in_lane Trying = true
not_in_lane Entered = false
not_in_lane Leaving = true
not_in_lane Over = true

-- it is biased, and no request is in
abbrev pub is_idle : Stage → Bool
is_idle Unbiased = false
is_idle Parked = false
is_idle Idle = true
is_idle Trying = false
is_idle Entered = false
is_idle Leaving = false
is_idle Over = false

abbrev pub has_entered : Option PassFacts → Bool
has_entered None = false
has_entered (Some pass) = is_in pass.view

-- its request is in: by its lane, or by the gate if it has no bias
abbrev pub in_at : Stage → Option PassFacts → Bool
in_at Unbiased pass = has_entered pass
in_at Parked pass = false
in_at Idle pass = false
in_at Trying pass = false
in_at Entered pass = true
in_at Leaving pass = false
in_at Over pass = false

abbrev pub in_now : BiasedFacts → Bool
in_now t = in_at (stage t) t.pass

-- a pass in hand is of the lanes' gate, and if it holds a reference it has read these limits
pub record HasTold (gate : GateFacts) (hardware : ℕ) (limits : Bounds) (pass : PassFacts) : Type 0 where
  pub own : pass.gate ≡ gate
  pub one : pass.view.standing.held ≤ 1
  pub told : is_in pass.view ≡ true → limits_told hardware pass.view ≡ Some limits

-- what was parked last was a pass of this gate that held a reference and had read these limits
pub record WasParked (gate : GateFacts) (hardware : ℕ) (limits : Bounds) (parked : Option ParkedPass) : Type 0 where
  pub what : ParkedPass
  pub is : parked ≡ Some what
  pub entered : is_in what.pass.view ≡ true
  pub told : HasTold gate hardware limits what.pass

-- a tag with no bias is this plain tag
pub record IsPlainTag (t : BiasedFacts) (plain : TagFacts) : Type 0 where
  pub own : plain.queue ≡ queue_of t
  pub unbiased : stage t ≡ Unbiased
  pub pass : PassFacts
  pub in_hand : t.pass ≡ Some pass
  pub is : plain ≡ tag_facts pass t.hardware t.bias.lanes

-- what holds of every biased tag
pub record IsBiased (t : BiasedFacts) : Type 0 where
  pub hand : is_some t.pass ≡ is_plain t
  pub pass : IfSome t.pass (HasTold t.bias.lanes.key t.hardware t.limits)
  pub parked : is_plain t ≡ false → WasParked t.bias.lanes.key t.hardware t.limits t.bias.view.parked

abbrev pub at_stage : Stage → BiasedFacts → BiasedFacts
at_stage now t = record t { bias = at now t.bias }

-- whether the result says that the tag is entered
abbrev pub says_in : BiasedEntry → Bool
says_in entries.Entered = true
says_in (entries.Refused put) = false
says_in entries.InHand = false

abbrev pub says_in_hand : BiasedEntry → Bool
says_in_hand entries.Entered = false
says_in_hand (entries.Refused put) = false
says_in_hand entries.InHand = true

-- the put of a refusal
abbrev pub refusal_of : BiasedEntry → Option Put
refusal_of entries.Entered = None
refusal_of (entries.Refused put) = Some put
refusal_of entries.InHand = None
