-- What a closed handle returns.
use Rattle.std.proofs.Common.{◌≡◌, ℕ, Option, None, refl, sym, subst}
use Rattle.std.specs.Prelude.{Result, Err}
use Rattle.percpu_gate.specs.declared.control_fault.ControlFault.{ControlFault}
use Rattle.c_answers.specs.declared.misuse.Misuse.TheVariants.{Closed}
use Rattle.c_answers.specs.Ran.{RanOn, Tells}
use Rattle.percpu_gate_c.specs.Opened.{PassOpened, ControlOpened}
use Rattle.percpu_gate_c.specs.Life.{Given, Retired}
use Rattle.percpu_gate_c.specs.KillSteps.{Begins, BegunKill}

pub closed_given : {old new : Option ControlOpened} {before after : Option PassOpened} {result : ℕ} → old ≡ None → new ≡ None → after ≡ before → result ≡ 32
    → Tells (Given old new before after) result
closed_given {new = new} {before = before} {after = after} was is kept told =
    (Err Closed, told, subst (λ (o : Option ControlOpened). Given o new before after (Err Closed)) (sym was) (refl, is, kept))

pub closed_retired : {old new : Option ControlOpened} {before after : Option PassOpened} {result : ℕ} → old ≡ None → new ≡ None → after ≡ before → result ≡ 32
    → Tells (Retired old new before after) result
closed_retired {new = new} {before = before} {after = after} was is kept told =
    (Err Closed, told, subst (λ (o : Option ControlOpened). Retired o new before after (Err Closed)) (sym was) (refl, is, kept))

pub closed_begins : {old new : Option ControlOpened} {there here result : ℕ} → old ≡ None → new ≡ None → here ≡ there → result ≡ 32 → Begins old new there here result
closed_begins {new = new} was is kept told =
    (Err Closed, told, kept, subst (λ (o : Option ControlOpened). RanOn {A = Result ℕ ControlFault} (λ _. None) BegunKill o new (Err Closed)) (sym was) (refl, is))
