-- The reply to a try of an open pass, and what it leaves.
use Rattle.std.proofs.Common.{◌≡◌, ℕ, ◌+◌, ◌%◌, ◌<◌, ◌≤◌, Bool, true, false, if◌then◌else◌, refl, sym, subst}
use Rattle.percpu_core.specs.PassLearns.{next_even}
use Rattle.percpu_core.specs.Views.{count}
use Rattle.percpu_gate.specs.declared.tried.Tried.{Tried}
use Rattle.percpu_gate.specs.declared.tried.Tried.TheVariants.{Given}
use Rattle.percpu_gate.specs.Seats.{GateFacts, PassFacts}
use Rattle.percpu_core.specs.declared.pass_event.PassEvent.TheVariants as events
use Rattle.percpu_gate.specs.Steps.{TrySteps}
use Rattle.percpu_gate.specs.Calls.{is_refused, taken, has_dead, has_zero, TryLeaves, TryFinds, LiveTryFinds, TryMeets}
use Rattle.c_answers.specs.declared.drawn_number.DrawnNumber.{DrawnNumber}
use Rattle.percpu_gate_c.specs.Opened.{PassOpened}
use Rattle.percpu_gate_c.specs.PassCalls.{TryGot, LiveTryGot}

module _ {gate : GateFacts} {number : DrawnNumber} {old new : PassFacts} {before : PassOpened} {r : Tried}
    (was : before ≡ record { number = number; pass = old }) (own : gate ≡ old.gate) (same : new.gate ≡ old.gate) where
  pub got : {slot : ℕ} → TryLeaves old.view new.view r → TrySteps events.AddTry slot r old.steps new.steps → TryFinds gate old.view r → (0 < old.view.standing.held → r ≡ Given)
      → TryMeets gate has_zero old.view new.view (is_refused r) → new.view.found_zero_times ≡ old.view.found_zero_times + count (is_refused r)
      → (is_refused r ≡ true → new.view.found_dead_times ≡ old.view.found_dead_times + 1) → (is_refused r ≡ true → (new.view.found_dead ≡ true) × (new.view.found_zero ≡ true))
      → TryGot slot before (record { number = number; pass = new }) r
  got {slot} leaves steps finds again meets times both ground = subst (λ (b : PassOpened). TryGot slot b (record { number = number; pass = new }) r) (sym was) (record {
    same = record { number = refl; gate = same };
    leaves = leaves;
    steps = steps;
    finds = subst (λ (g : GateFacts). TryFinds g old.view r) own finds;
    again = again;
    meets = subst (λ (g : GateFacts). TryMeets g has_zero old.view new.view (is_refused r)) own meets;
    times = times;
    both = both;
    ground = ground;
  })

  pub got_live : {slot : ℕ} → TryLeaves old.view new.view r → TrySteps events.AddLive slot r old.steps new.steps → LiveTryFinds gate slot old.view r
      → new.view.floor ≡ (if is_refused r then old.view.floor else next_even old.view.floor) → new.view.live_given ≡ old.view.live_given + taken r
      → TryMeets gate has_dead old.view new.view (is_refused r) → new.view.found_dead_times ≡ old.view.found_dead_times + count (is_refused r)
      → (is_refused r ≡ true → new.view.found_dead ≡ true) → (is_refused r ≡ false → old.view.seen_front % 2 ≡ 1 → old.view.seen_front + 1 ≤ new.view.floor)
      → LiveTryGot slot before (record { number = number; pass = new }) r
  got_live {slot} leaves steps finds floor live meets times ground later = subst (λ (b : PassOpened). LiveTryGot slot b (record { number = number; pass = new }) r) (sym was) (record {
    same = record { number = refl; gate = same };
    leaves = leaves;
    steps = steps;
    finds = subst (λ (g : GateFacts). LiveTryFinds g slot old.view r) own finds;
    floor = floor;
    live = live;
    meets = subst (λ (g : GateFacts). TryMeets g has_dead old.view new.view (is_refused r)) own meets;
    times = times;
    ground = ground;
    later = later;
  })
