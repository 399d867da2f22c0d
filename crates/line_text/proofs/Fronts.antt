-- Lines that were read, before those that are still to come.
use Rattle.std.proofs.Common.{◌≡◌, sym, ap, refl, List, [], ◌∷◌, ◌++◌, append_assoc, Result, Ok, Err}
use Rattle.line_text.specs.Numbers.{◌>>=◌}

abbrev pub with_front : {A E : Type 0} → List A → Result (List A) E → Result (List A) E
with_front front r = r >>= λ more. Ok (front ++ more)

pub with_front-nil : {A E : Type 0} (r : Result (List A) E) → with_front [] r ≡ r
with_front-nil (Ok more) = refl
with_front-nil (Err e) = refl

-- a line more in front
pub with_front-more : {A E : Type 0} (front : List A) (x : A) (r : Result (List A) E) → with_front front (r >>= λ more. Ok (x ∷ more)) ≡ with_front (front ++ x ∷ []) r
with_front-more front x (Ok more) = ap Ok (sym (append_assoc front (x ∷ []) more))
with_front-more front x (Err e) = refl
