-- A put that was the last.
use Rattle.std.proofs.Common.{◌≡◌, ℕ, Bool, true, false, refl, sym, ◌∙◌, subst}
use Rattle.percpu_gate.specs.declared.tried.Put.{Put}
use Rattle.percpu_gate.specs.declared.tried.Put.TheVariants.{Last, NotLast}
use Rattle.percpu_gate.specs.Seats.{PassFacts}
use Rattle.percpu_gate.specs.Steps.{PutSteps}
use Rattle.queue_core.specs.BiasedSteps.{PutsOnce}
use Rattle.queue_core.specs.Readings.{is_in}

module _ (slot : ℕ) (put : Put) (from to : PassFacts) (puts : PutsOnce slot put from to) (last : put ≡ Last) where
  last_by : (inside : Bool) → is_in from.view ≡ inside → PutSteps slot 1 Last from.steps to.steps
  last_by true is = subst (λ (p : Put). PutSteps slot 1 p from.steps to.steps) last (puts.once is).steps
  last_by false is = let none : NotLast ≡ Last = sym (puts.left is).0 ∙ last in cc

  pub puts_last : PutSteps slot 1 Last from.steps to.steps
  puts_last = last_by (is_in from.view) refl
