-- A wait to enter whose first attempt was made before it.
use Rattle.std.proofs.Common.{◌≡◌, ℕ, zero, suc, false, refl, subst, sym}
use Rattle.percpu_core.specs.declared.pass_event.PassEvent.TheVariants.{AddLive}
use Rattle.percpu_gate.specs.Rule.{Steps}
use Rattle.freeze_queue.specs.declared.enter.Enter.TheVariants.{Again}
use Rattle.queue_core.specs.declared.biased.BiasedEntry.{BiasedEntry}
use Rattle.queue_core.specs.BiasedTags.{BiasedFacts, says_in}
use Rattle.queue_core.specs.Queue.{QueueFacts}
use Rattle.freeze_queue.specs.Entering.{EnterSteps, RefusedSteps, WaitSteps}
use Rattle.freeze_queue.specs.Lanes.{TriesToEnter, TriesInVain, EntersAtLast}

first_too : (slot n : ℕ) (old mid new : Steps) → EnterSteps AddLive slot Again old mid → RefusedSteps slot n mid new → RefusedSteps slot (suc n) old new
first_too slot zero old mid new first rest = (old, refl, subst (λ (s : Steps). EnterSteps AddLive slot Again old s) (sym rest) first)
first_too slot (suc n) old mid new first rest = (rest.0, first_too slot n old mid rest.0 first rest.1, rest.2)

pub one_more : {slot : ℕ} {old mid new : Steps} → EnterSteps AddLive slot Again old mid → WaitSteps slot mid new → WaitSteps slot old new
one_more {slot} {old} {mid} {new} first wait = (suc wait.0, wait.1, first_too slot wait.0 old mid wait.1 first wait.2, wait.3)

vain_too : (slot : ℕ) (queue : QueueFacts) (n : ℕ) (old mid new : BiasedFacts) (r : BiasedEntry)
    → says_in r ≡ false → TriesToEnter slot queue r old mid → TriesInVain slot queue n mid new → TriesInVain slot queue (suc n) old new
vain_too slot queue zero old mid new r vain first rest = (old, refl, r, vain, subst (λ (t : BiasedFacts). TriesToEnter slot queue r old t) (sym rest) first)
vain_too slot queue (suc n) old mid new r vain first rest = (rest.0, vain_too slot queue n old mid rest.0 r vain first rest.1, rest.2, rest.3, rest.4)

pub one_more_by_lane : {slot : ℕ} {queue : QueueFacts} {old mid new : BiasedFacts} {r : BiasedEntry}
    → says_in r ≡ false → TriesToEnter slot queue r old mid → EntersAtLast slot queue mid new → EntersAtLast slot queue old new
one_more_by_lane {slot} {queue} {old} {mid} {new} {r} vain first wait = (suc wait.0, wait.1, vain_too slot queue wait.0 old mid wait.1 r vain first wait.2, wait.3)
