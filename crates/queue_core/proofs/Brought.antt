-- A call at the gate by a tag whose bias it found over, or that it parked in vain.
use Rattle.std.proofs.Common.{◌≡◌, ℕ, Bool, true, false, Option, if◌then◌else◌, refl, subst, inl, inr}
use Rattle.percpu_gate.specs.declared.tried.Put.{Put}
use Rattle.percpu_gate.specs.Seats.{GateFacts, PassFacts}
use Rattle.bias_lanes.specs.declared.views.Stage.{Stage}
use Rattle.bias_lanes.specs.declared.views.Stage.TheVariants.{Unbiased, Parked, Idle, Trying, Entered, Leaving, Over}
use Rattle.bias_lanes.specs.Seats.{at}
use Rattle.queue_core.specs.declared.biased.BiasedEntry.{BiasedEntry}
use Rattle.queue_core.specs.BiasedTags.{BiasedFacts, is_unbiased, is_plain, is_idle, not_in_lane, stage, at_stage}
use Rattle.queue_core.specs.BiasedSteps.{Bias, Brings, EntersWith, LeavesByGate, LeavesAtGate, ParksAt, ParksInVain, loading}
use Rattle.queue_core.specs.Queue.{QueueFacts}

-- a bias that is over is brought as it was before
over_brings : (bias : Bias) (held : Option PassFacts) (pass : PassFacts) → is_unbiased bias.view.stage ≡ false → Brings (at Over bias) held pass → Brings bias held pass
over_brings bias held pass biased b = record { hand = λ plain. cc; cell = λ _. b.cell refl }

idle_is_biased : (s : Stage) → is_idle s ≡ true → is_unbiased s ≡ false
idle_is_biased Unbiased e = cc
idle_is_biased Parked e = cc
idle_is_biased Idle e = refl
idle_is_biased Trying e = cc
idle_is_biased Entered e = cc
idle_is_biased Leaving e = cc
idle_is_biased Over e = cc

in_lane_is_biased : (s : Stage) → not_in_lane s ≡ false → is_unbiased s ≡ false
in_lane_is_biased Unbiased e = cc
in_lane_is_biased Parked e = cc
in_lane_is_biased Idle e = cc
in_lane_is_biased Trying e = cc
in_lane_is_biased Entered e = refl
in_lane_is_biased Leaving e = cc
in_lane_is_biased Over e = cc

module _ (comes : GateFacts → Option Put → PassFacts → PassFacts → Type 0) (queue : QueueFacts) (r : BiasedEntry) where
  enters_over : (idle : Bool) (old mid new : BiasedFacts) → is_idle (stage old) ≡ idle → mid ≡ (if idle then at_stage Over old else old) → EntersWith comes queue r mid new → EntersWith comes queue r old new
  enters_over false old mid new at is e = subst (λ (t : BiasedFacts). EntersWith comes queue r t new) is e
  enters_over true old mid new at is e =
      let b = subst (λ (t : BiasedFacts). EntersWith comes queue r t new) is e in
      record { from = b.from; brings = over_brings old.bias old.pass b.from (idle_is_biased (stage old) at) b.brings; there = b.there; came = b.came; to = b.to; asks = b.asks; refused = b.refused; leaves = b.leaves }

  pub enters_after : (old mid new : BiasedFacts) → mid ≡ (if is_idle (stage old) then at_stage Over old else old) → EntersWith comes queue r mid new → EntersWith comes queue r old new
  enters_after old mid new is e = enters_over (is_idle (stage old)) old mid new refl is e

module _ (slot : ℕ) (keep : Bool) (put : Put) where
  leaves_over : (old new : BiasedFacts) → is_plain old ≡ false → LeavesAtGate slot keep put (at_stage Over old) new → LeavesAtGate slot keep put old new
  leaves_over old new biased (inl b) = inl (record { from = b.from; brings = over_brings old.bias old.pass b.from biased b.brings; to = b.to; puts = b.puts; leaves = b.leaves })
  leaves_over old new biased (inr (kept, plain, mid, vain, left)) = cc

  leaves_by : (free : Bool) (old mid new : BiasedFacts) → not_in_lane (stage old) ≡ free → mid ≡ (if free then old else at_stage Over old) → LeavesAtGate slot keep put mid new → LeavesAtGate slot keep put old new
  leaves_by true old mid new at is l = subst (λ (t : BiasedFacts). LeavesAtGate slot keep put t new) is l
  leaves_by false old mid new at is l = leaves_over old new (in_lane_is_biased (stage old) at) (subst (λ (t : BiasedFacts). LeavesAtGate slot keep put t new) is l)

  pub leaves_after : (old mid new : BiasedFacts) → mid ≡ (if not_in_lane (stage old) then old else at_stage Over old) → LeavesAtGate slot keep put mid new → LeavesAtGate slot keep put old new
  leaves_after old mid new is l = leaves_by (not_in_lane (stage old)) old mid new refl is l

  -- a tag that was to be parked leaves: it wasn't, or it was parked in vain
  module _ (old mid new : BiasedFacts) (kept : keep ≡ true) (plain : is_plain old ≡ true) (back : is_plain mid ≡ true → mid ≡ loading mid.bias.view.bias old)
      (parks : is_plain mid ≡ false → ParksAt Over slot old mid) (l : LeavesByGate slot put mid new) where
    vain_by : (unbiased : Bool) → is_plain mid ≡ unbiased → ParksInVain slot old mid
    vain_by true is = inl (back is)
    vain_by false is = inr (parks is)

    pub in_vain : LeavesAtGate slot keep put old new
    in_vain = inr (kept, plain, mid, vain_by (is_plain mid) refl, l)
