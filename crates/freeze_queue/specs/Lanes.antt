-- How a biased tag enters: by its lane or by the gate, at once or after attempts in vain.
use Rattle.std.specs.Prelude.{◌≡◌, ℕ, zero, suc, true, false, not}
use Rattle.bias_lanes.specs.declared.views.Stage.TheVariants as stages
use Rattle.bias_lanes.specs.Seats.{at, FindsParked}
use Rattle.queue_core.specs.declared.biased.BiasedEntry.{BiasedEntry}
use Rattle.queue_core.specs.declared.biased.BiasedEntry.TheVariants.{Entered}
use Rattle.queue_core.specs.Biased.{Fits}
use Rattle.queue_core.specs.BiasedSteps.{EntersByGate}
use Rattle.queue_core.specs.BiasedTags.{BiasedFacts, queue_of, stage, is_plain, in_now, at_stage, says_in, says_in_hand}
use Rattle.queue_core.specs.Queue.{QueueFacts}

-- an attempt to enter. By its lane, the tag's reference was parked at the load that let it in, and nothing else changes; by the gate it looks once, or tries once on this slot
pub record TriesToEnter (slot : ℕ) (queue : QueueFacts) (r : BiasedEntry) (old new : BiasedFacts) : Type 0 where
  pub own : queue_of new ≡ queue_of old
  pub entered : in_now new ≡ says_in r
  pub by_lane : stage new ≡ stages.Entered → new ≡ at_stage stages.Entered old
  pub held : stage new ≡ stages.Entered → FindsParked Fits (at stages.Trying old.bias)
  pub by_gate : says_in r ≡ false → is_plain new ≡ not (says_in_hand r)
  pub in_hand : says_in_hand r ≡ true → new ≡ at_stage stages.Parked old
  pub steps : is_plain new ≡ true → EntersByGate slot queue r old new

-- this many attempts in vain, one after another
abbrev pub TriesInVain : ℕ → QueueFacts → ℕ → BiasedFacts → BiasedFacts → Type 0
TriesInVain slot queue zero old new = new ≡ old
TriesInVain slot queue (suc n) old new = (behind : BiasedFacts) × TriesInVain slot queue n old behind × (r : BiasedEntry) × (says_in r ≡ false) × TriesToEnter slot queue r behind new

-- a wait to enter: attempts in vain, and the attempt that entered
abbrev pub EntersAtLast : ℕ → QueueFacts → BiasedFacts → BiasedFacts → Type 0
EntersAtLast slot queue old new = (tries : ℕ) × (behind : BiasedFacts) × TriesInVain slot queue tries old behind × TriesToEnter slot queue Entered behind new
