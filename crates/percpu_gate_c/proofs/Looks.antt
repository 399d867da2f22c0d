-- What a look at the gate, and a guarded word, say of an open pass.
use Rattle.std.proofs.Common.{◌≡◌, ℕ, ◌+◌, Bool, true, ◌∷◌, refl, sym, subst}
use Rattle.percpu_core.specs.declared.pass_event.PassEvent.TheVariants as events
use Rattle.percpu_core.specs.declared.reply.Reply.TheVariants.{Number}
use Rattle.percpu_core.specs.Views.{count}
use Rattle.percpu_gate.specs.Seats.{GateFacts, PassFacts, PassStep, dead_at, zero_at}
use Rattle.percpu_gate.specs.Steps.{LookSteps}
use Rattle.percpu_gate.specs.Calls.{PassLook, LookLeaves, HasRead}
use Rattle.c_answers.specs.declared.drawn_number.DrawnNumber.{DrawnNumber}
use Rattle.percpu_gate_c.specs.Opened.{PassOpened}
use Rattle.percpu_gate_c.specs.PassCalls.{LookedForDead, LookedForZero, ReadWord}

module _ {gate : GateFacts} {number : DrawnNumber} {old new : PassFacts} {before : PassOpened} (was : before ≡ record { number = number; pass = old }) (own : gate ≡ old.gate) (same : new.gate ≡ old.gate) where
  pub looked_dead : {found : Bool} → ((look : PassLook gate old.view new.view) × (found ≡ dead_at look.moment)) → LookSteps (λ s. s.dead) found old.steps new.steps → LookLeaves old.view new.view
      → new.view.found_dead_times ≡ old.view.found_dead_times + count found → (found ≡ true → new.view.found_dead ≡ true)
      → LookedForDead before (record { number = number; pass = new }) found
  looked_dead {found} step steps leaves times ground =
      subst (λ (b : PassOpened). LookedForDead b (record { number = number; pass = new }) found) (sym was) (record {
        same = record { number = refl; gate = same };
        step = subst (λ (g : GateFacts). (look : PassLook g old.view new.view) × (found ≡ dead_at look.moment)) own step;
        steps = steps;
        leaves = leaves;
        times = times;
        ground = ground;
      })

  pub looked_zero : {found : Bool} → ((look : PassLook gate old.view new.view) × (found ≡ zero_at look.moment)) → LookSteps (λ s. s.zero) found old.steps new.steps → LookLeaves old.view new.view
      → new.view.found_zero_times ≡ old.view.found_zero_times + count found → (found ≡ true → (new.view.found_zero ≡ true) × (new.view.standing.held ≡ 0))
      → LookedForZero before (record { number = number; pass = new }) found
  looked_zero {found} step steps leaves times ground =
      subst (λ (b : PassOpened). LookedForZero b (record { number = number; pass = new }) found) (sym was) (record {
        same = record { number = refl; gate = same };
        step = subst (λ (g : GateFacts). (look : PassLook g old.view new.view) × (found ≡ zero_at look.moment)) own step;
        steps = steps;
        leaves = leaves;
        times = times;
        ground = ground;
      })

  pub read_word : {k told : ℕ} → PassStep gate (events.LoadWord k) old.view new.view (Number told) → new.steps ≡ (events.LoadWord k, Number told) ∷ old.steps → new.view ≡ record old.view { read = record { word = k; value = told } ∷ old.view.read }
      → ((v : ℕ) → HasRead k v old.view.read → told ≡ v) → ReadWord k before (record { number = number; pass = new }) told
  read_word {k} {told} step steps view again =
      subst (λ (b : PassOpened). ReadWord k b (record { number = number; pass = new }) told) (sym was) (record {
        same = record { number = refl; gate = same };
        step = subst (λ (g : GateFacts). PassStep g (events.LoadWord k) old.view new.view (Number told)) own step;
        steps = steps;
        view = view;
        again = again;
      })
