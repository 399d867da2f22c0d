-- A closed handle answers so.
use Rattle.std.proofs.Common.{◌≡◌, ℕ, Option, None, refl, sym, subst}
use Rattle.std.specs.Prelude.{Result, Err}
use Rattle.queue_core.specs.declared.fault.FreezeFault.{FreezeFault}
use Rattle.c_answers.specs.declared.misuse.Misuse.TheVariants.{Closed}
use Rattle.c_answers.specs.Ran.{RanOn, Tells}
use Rattle.freeze_queue_c.specs.Opened.{TagOpened, FreezerOpened}
use Rattle.freeze_queue_c.specs.Life.{Given, GivenBack, TellsPut}
use Rattle.freeze_queue_c.specs.FreezerCalls.{Counts}

pub closed_counts : {A : Type 0} (number depth : A → ℕ) (leaves : FreezerOpened → FreezerOpened → Result A FreezeFault → Type 0) {old new : Option FreezerOpened} {there here result : ℕ}
    → old ≡ None → new ≡ None → here ≡ there → result ≡ 32 → Counts number depth leaves old new there here result
closed_counts {A = A} number depth leaves {old = old} {new = new} was is kept told =
    (Err Closed, told, kept, subst (λ (o : Option FreezerOpened). RanOn {A = Result A FreezeFault} (λ _. None) leaves o new (Err Closed)) (sym was) (refl, is))

pub closed_given : {old new : Option FreezerOpened} {before after : Option TagOpened} {result : ℕ} → old ≡ None → new ≡ None → after ≡ before → result ≡ 32
    → Tells (Given old new before after) result
closed_given {new = new} {before = before} {after = after} was is kept told =
    (Err Closed, told, subst (λ (o : Option FreezerOpened). Given o new before after (Err Closed)) (sym was) (refl, is, kept))

pub closed_given_back : {old new : Option FreezerOpened} {before after : Option TagOpened} {result : ℕ} → old ≡ None → new ≡ None → after ≡ before → result ≡ 32
    → TellsPut (GivenBack old new before after) result
closed_given_back {new = new} {before = before} {after = after} was is kept told =
    (Err Closed, told, subst (λ (o : Option FreezerOpened). GivenBack o new before after (Err Closed)) (sym was) (refl, is, kept))
