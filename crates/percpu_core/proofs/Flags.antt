-- Facts on tests that many proofs use.
use Rattle.std.proofs.Common.{◌≡◌, Bool, true, false, ◌||◌, refl}

pub true_not_false : {A : Type 0} → true ≡ false → A
true_not_false e = cc

pub never : {A : Type 0} → false ≡ true → A
never e = cc

pub or_cases : (a b : Bool) {P : Type 0} → (a ≡ true → P) → (b ≡ true → P) → (a || b) ≡ true → P
or_cases true b f g h = f refl
or_cases false b f g h = g h

pub or_same : (a b : Bool) → a ≡ b → (a || b) ≡ b
or_same true true e = refl
or_same false b e = refl
or_same true false e = cc

pub or_right : (a : Bool) → (a || true) ≡ true
or_right true = refl
or_right false = refl

pub or_false : (a : Bool) → (a || false) ≡ a
or_false true = refl
or_false false = refl
