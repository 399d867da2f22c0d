-- What a closed handle returns.
use Rattle.std.proofs.Common.{◌≡◌, ℕ, Option, None, refl, sym, subst}
use Rattle.std.specs.Prelude.{Err}
use Rattle.c_answers.specs.declared.misuse.Misuse.{Misuse}
use Rattle.c_answers.specs.declared.misuse.Misuse.TheVariants.{Closed}
use Rattle.c_answers.specs.Numbers.{number_of}
use Rattle.c_answers.specs.Ran.{RanOn, Answers, Writes}

pub closed_answers : {S A : Type 0} {number : A → ℕ} (misuse : S → Option Misuse) (leaves : S → S → A → Type 0) {old new : Option S} {result : ℕ}
    → old ≡ None → new ≡ None → result ≡ number_of number (Err Closed) → Answers number misuse leaves old new result
closed_answers {S = S} {A = A} {number = number} misuse leaves {old = old} {new = new} {result = result} was is told =
    (Err Closed, told, subst (λ (o : Option S). RanOn misuse leaves o new (Err Closed)) (sym was) (refl, is))

pub closed_writes : {S V : Type 0} (misuse : S → Option Misuse) (leaves : S → S → V → Type 0) {old new : Option S} {there here : V} {result : ℕ}
    → old ≡ None → new ≡ None → here ≡ there → result ≡ 32 → Writes misuse leaves old new there here result
closed_writes {S = S} {V = V} misuse leaves {old = old} {new = new} was is kept told =
    (Err Closed, told, kept, subst (λ (o : Option S). RanOn {A = V} misuse leaves o new (Err Closed)) (sym was) (refl, is))
