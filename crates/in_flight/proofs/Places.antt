-- What stands at a place of a list that grew or changed at one place, and how many replies are owed.
use Rattle.std.proofs.Common.{◌≡◌, ◌≢◌, ◌∙◌, refl, sym, ap, ℕ, zero, suc, ◌+◌, ◌<◌, ◌≤◌, arith, true, false, List, [], ◌∷◌, ◌++◌, length, take, get_or, set, Option, Some, None, is_none, append_assoc}
use Rattle.std.proofs.lemmas.List.{take_more}
use Rattle.std.specs.List.{slice_get}
use Rattle.std.specs.Option.{option_map_or}
use Rattle.in_flight.specs.Table.{is_owed, owed_count, joined}

pub get_push_below : {X : Type 0} (xs : List X) (x : X) (p : ℕ) → p < length xs → slice_get (xs ++ x ∷ []) p ≡ slice_get xs p
get_push_below [] x p less = absurd (omega (arith, less))
get_push_below (y ∷ xs) x zero less = refl
get_push_below (y ∷ xs) x (suc p) less = get_push_below xs x p (omega (arith, less))

pub get_push_at : {X : Type 0} (xs : List X) (x : X) → slice_get (xs ++ x ∷ []) (length xs) ≡ Some x
get_push_at [] x = refl
get_push_at (y ∷ xs) x = get_push_at xs x

pub get_set_same : {X : Type 0} (xs : List X) (p : ℕ) (x : X) → p < length xs → slice_get (set xs p x) p ≡ Some x
get_set_same [] p x less = absurd (omega (arith, less))
get_set_same (y ∷ xs) zero x less = refl
get_set_same (y ∷ xs) (suc p) x less = get_set_same xs p x (omega (arith, less))

pub get_set_other : {X : Type 0} (xs : List X) (p q : ℕ) (x : X) → q ≢ p → slice_get (set xs p x) q ≡ slice_get xs q
get_set_other [] p q x other = refl
get_set_other (y ∷ xs) zero zero x other = absurd (other refl)
get_set_other (y ∷ xs) zero (suc q) x other = refl
get_set_other (y ∷ xs) (suc p) zero x other = refl
get_set_other (y ∷ xs) (suc p) (suc q) x other = get_set_other xs p q x (λ e. other (ap suc e))

-- ---- replies that are owed

pub owed_below : (replies : List (Option (List ℕ))) (p : ℕ) → is_owed replies p ≡ true → p < length replies
owed_below [] p is = absurd (no_true is)
  where
    no_true : false ≡ true → ⊥
    no_true e = cc
owed_below (r ∷ replies) zero is = omega arith
owed_below (r ∷ replies) (suc p) is = omega (arith, owed_below replies p is)

pub owed_push : (replies : List (Option (List ℕ))) (r : Option (List ℕ)) (p : ℕ) → p < length replies → is_owed (replies ++ r ∷ []) p ≡ is_owed replies p
owed_push replies r p less = ap (λ (o : Option (Option (List ℕ))). option_map_or is_none o false) (get_push_below replies r p less)

pub owed_at : (replies : List (Option (List ℕ))) (r : Option (List ℕ)) → is_owed (replies ++ r ∷ []) (length replies) ≡ is_none r
owed_at replies r = ap (λ (o : Option (Option (List ℕ))). option_map_or is_none o false) (get_push_at replies r)

pub owed_set_other : (replies : List (Option (List ℕ))) (p q : ℕ) (r : Option (List ℕ)) → q ≢ p → is_owed (set replies p r) q ≡ is_owed replies q
owed_set_other replies p q r other = ap (λ (o : Option (Option (List ℕ))). option_map_or is_none o false) (get_set_other replies p q r other)

pub owed_set_same : (replies : List (Option (List ℕ))) (p : ℕ) (text : List ℕ) → p < length replies → is_owed (set replies p (Some text)) p ≡ false
owed_set_same replies p text less = ap (λ (o : Option (Option (List ℕ))). option_map_or is_none o false) (get_set_same replies p (Some text) less)

pub count-le-length : (replies : List (Option (List ℕ))) → owed_count replies ≤ length replies
count-le-length [] = omega arith
count-le-length (None ∷ replies) = omega (arith, count-le-length replies)
count-le-length (Some line ∷ replies) = omega (arith, count-le-length replies)

-- where none is counted none is owed
pub none_counted : (replies : List (Option (List ℕ))) (p : ℕ) → owed_count replies ≡ 0 → is_owed replies p ≡ false
none_counted [] p none = refl
none_counted (None ∷ replies) p none = absurd (omega (arith, none))
none_counted (Some line ∷ replies) zero none = refl
none_counted (Some line ∷ replies) (suc p) none = none_counted replies p none

pub count_push_none : (replies : List (Option (List ℕ))) → owed_count (replies ++ None ∷ []) ≡ owed_count replies + 1
count_push_none [] = refl
count_push_none (None ∷ replies) = ap (λ n. n + 1) (count_push_none replies)
count_push_none (Some line ∷ replies) = count_push_none replies

pub count_push_some : (replies : List (Option (List ℕ))) (text : List ℕ) → owed_count (replies ++ Some text ∷ []) ≡ owed_count replies
count_push_some [] text = refl
count_push_some (None ∷ replies) text = ap (λ n. n + 1) (count_push_some replies text)
count_push_some (Some line ∷ replies) text = count_push_some replies text

no_true : false ≡ true → ⊥
no_true e = cc

pub count_set : (replies : List (Option (List ℕ))) (p : ℕ) (text : List ℕ) → is_owed replies p ≡ true → owed_count (set replies p (Some text)) + 1 ≡ owed_count replies
count_set [] p text is = absurd (no_true is)
count_set (None ∷ replies) zero text is = refl
count_set (Some line ∷ replies) zero text is = absurd (no_true is)
count_set (None ∷ replies) (suc p) text is = ap (λ n. n + 1) (count_set replies p text is)
count_set (Some line ∷ replies) (suc p) text is = count_set replies p text is

-- ---- the lines that are there, one after another

pub joined-append : (xs ys : List (Option (List ℕ))) → joined (xs ++ ys) ≡ joined xs ++ joined ys
joined-append [] ys = refl
joined-append (None ∷ xs) ys = joined-append xs ys
joined-append (Some line ∷ xs) ys = ap (λ t. line ++ t) (joined-append xs ys) ∙ sym (append_assoc line (joined xs) (joined ys))

pub joined_more : (xs : List (Option (List ℕ))) (i : ℕ) (x : Option (List ℕ)) → i < length xs → x ≡ get_or xs i x → joined (take (i + 1) xs) ≡ joined (take i xs) ++ joined (x ∷ [])
joined_more xs i x less is = ap joined (take_more xs i x less ∙ ap (λ y. take i xs ++ y ∷ []) (sym is)) ∙ joined-append (take i xs) (x ∷ [])
