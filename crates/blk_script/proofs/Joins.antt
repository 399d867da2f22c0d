-- A text that joins parts by a byte, one part more at its end.
use Rattle.std.proofs.Common.{zero, suc, ◌≡◌, ◌∙◌, sym, ap, refl, ℕ, ◌+◌, ◌<◌, arith, List, [], ◌∷◌, ◌++◌, append_assoc, length, get_or, take, map}
use Rattle.std.proofs.lemmas.List.{take_more, length-take-le, length-map}
use Rattle.std.proofs.lemmas.List.{map-append}
use Rattle.std.specs.List.{join_with_byte}

join-push : (c : ℕ) (parts : List (List ℕ)) (part : List ℕ) → 0 < length parts → join_with_byte c (parts ++ part ∷ []) ≡ join_with_byte c parts ++ (c ∷ part)
join-push c [] part some = absurd (omega arith)
join-push c (first ∷ []) part some = refl
join-push c (first ∷ next ∷ parts) part some =
    ap (λ rest. first ++ (c ∷ rest)) (join-push c (next ∷ parts) part (omega arith)) ∙ sym (append_assoc first (c ∷ join_with_byte c (next ∷ parts)) (c ∷ part))

-- the text of the first items, and of one more
pub join-one : {X : Type 0} (c : ℕ) (f : X → List ℕ) (xs : List X) (i : ℕ) (d : X) → i ≡ 0 → i < length xs → join_with_byte c (map f (take (i + 1) xs)) ≡ join_with_byte c (map f (take i xs)) ++ f (get_or xs i d)
join-one c f [] i d e lt = absurd (omega (arith, e))
join-one c f (x ∷ xs) zero d e lt = refl
join-one c f (x ∷ xs) (suc i) d e lt = absurd (omega (arith, e))

pub join-more : {X : Type 0} (c : ℕ) (f : X → List ℕ) (xs : List X) (i : ℕ) (d : X) → 0 < i → i < length xs → join_with_byte c (map f (take (i + 1) xs)) ≡ (join_with_byte c (map f (take i xs)) ++ c ∷ []) ++ f (get_or xs i d)
join-more c f xs i d some lt =
    ap (λ ys. join_with_byte c (map f ys)) (take_more xs i d lt)
    ∙ ap (join_with_byte c) (map-append f (take i xs) (get_or xs i d ∷ []))
    ∙ join-push c (map f (take i xs)) (f (get_or xs i d)) (omega (arith, length-map (take i xs) f, length-take-le i xs (omega arith)))
    ∙ sym (append_assoc (join_with_byte c (map f (take i xs))) (c ∷ []) (f (get_or xs i d)))

-- what was appended in three steps, and in two
pub append-three : (new mid before old t t' a b : List ℕ) → new ≡ mid ++ b → mid ≡ before ++ a → before ≡ old ++ t → t' ≡ (t ++ a) ++ b → new ≡ old ++ t'
append-three new mid before old t t' a b e f g h =
    e ∙ ap (λ x. x ++ b) (f ∙ ap (λ x. x ++ a) g) ∙ ap (λ x. x ++ b) (append_assoc old t a) ∙ append_assoc old (t ++ a) b ∙ ap (λ x. old ++ x) (sym h)

pub append-two : (new mid old t t' b : List ℕ) → new ≡ mid ++ b → mid ≡ old ++ t → t' ≡ t ++ b → new ≡ old ++ t'
append-two new mid old t t' b e f g = e ∙ ap (λ x. x ++ b) f ∙ append_assoc old t b ∙ ap (λ x. old ++ x) (sym g)
