-- Lines that stand in one text, one more of them, and behind them the replies that are there or owed.
use Rattle.std.proofs.Common.{◌≡◌, ◌∙◌, refl, sym, ap, ℕ, zero, suc, ◌+◌, ◌-◌, ◌≤◌, arith, true, false, List, [], ◌∷◌, ◌++◌, length, take, drop, map, set, Option, Some}
use Rattle.std.specs.List.{sum}
use Rattle.std.proofs.lemmas.List.{length-drop, take-append-le, drop-append-le, take-append-drop, nil_from_length}
use Rattle.std.proofs.lemmas.List.Sums.{sum_by-cons}
use Rattle.in_flight.specs.Table.{is_owed, owed_count, joined}
use Rattle.in_flight.specs.Lines.{lines_of}

pub count_lines : (lengths text : List ℕ) → length (lines_of lengths text) ≡ length lengths
count_lines [] text = refl
count_lines (n ∷ lengths) text = ap suc (count_lines lengths (drop n text))

sum_first : (n : ℕ) (lengths : List ℕ) → sum (n ∷ lengths) ≡ n + sum lengths
sum_first n lengths = sum_by-cons (λ x. x) n lengths

-- what is left of a text behind its first line has the lines that are left
rest_sum : (n : ℕ) (lengths text : List ℕ) → sum (n ∷ lengths) ≡ length text → sum lengths ≡ length (drop n text)
rest_sum n lengths text whole = omega (arith, whole, sum_first n lengths, length-drop n text)

first_fits : (n : ℕ) (lengths text : List ℕ) → sum (n ∷ lengths) ≡ length text → n ≤ length text
first_fits n lengths text whole = omega (arith, whole, sum_first n lengths)

-- one more line behind the others
pub one_more : (lengths text line : List ℕ) → sum lengths ≡ length text → lines_of (lengths ++ length line ∷ []) (text ++ line) ≡ lines_of lengths text ++ line ∷ []
one_more [] text line whole = rw (nil_from_length text (sym whole)) (ap (λ l. l ∷ []) (take_all line))
  where
    take_all : (xs : List ℕ) → take (length xs) xs ≡ xs
    take_all [] = refl
    take_all (x ∷ xs) = ap (λ ys. x ∷ ys) (take_all xs)
one_more (n ∷ lengths) text line whole =
    let first : take n (text ++ line) ≡ take n text = take-append-le n text line (first_fits n lengths text whole) in
    let behind : drop n (text ++ line) ≡ drop n text ++ line = drop-append-le n text line (first_fits n lengths text whole) in
    ap (λ l. l ∷ lines_of (lengths ++ length line ∷ []) (drop n (text ++ line))) first
    ∙ ap (λ t. take n text ∷ lines_of (lengths ++ length line ∷ []) t) behind
    ∙ ap (λ ls. take n text ∷ ls) (one_more lengths (drop n text) line (rest_sum n lengths text whole))

-- joined they are the text
pub joined_is_text : (lengths text : List ℕ) → sum lengths ≡ length text → joined (map Some (lines_of lengths text)) ≡ text
joined_is_text [] text whole = sym (nil_from_length text (sym whole))
joined_is_text (n ∷ lengths) text whole =
    ap (λ t. take n text ++ t) (joined_is_text lengths (drop n text) (rest_sum n lengths text whole)) ∙ take-append-drop n text

-- ---- lines in a text, and behind them the replies that are there or owed

pub count_both : (told : List (List ℕ)) (rest : List (Option (List ℕ))) → length (map Some told ++ rest) ≡ length told + length rest
count_both [] rest = omega arith
count_both (line ∷ told) rest = omega (arith, count_both told rest)

pub count_behind : (told : List (List ℕ)) (rest : List (Option (List ℕ))) → owed_count (map Some told ++ rest) ≡ owed_count rest
count_behind [] rest = refl
count_behind (line ∷ told) rest = count_behind told rest

pub owed_behind : (told : List (List ℕ)) (rest : List (Option (List ℕ))) (p q : ℕ) → p ≡ length told + q → is_owed (map Some told ++ rest) p ≡ is_owed rest q
owed_behind [] rest p q is = ap (is_owed rest) (omega (arith, is))
owed_behind (line ∷ told) rest zero q is = absurd (omega (arith, is))
owed_behind (line ∷ told) rest (suc p) q is = owed_behind told rest p q (omega (arith, is))

pub set_behind : (told : List (List ℕ)) (rest : List (Option (List ℕ))) (p q : ℕ) (r : Option (List ℕ)) → p ≡ length told + q → set (map Some told ++ rest) p r ≡ map Some told ++ set rest q r
set_behind [] rest p q r is = ap (λ n. set rest n r) (omega (arith, is))
set_behind (line ∷ told) rest zero q r is = absurd (omega (arith, is))
set_behind (line ∷ told) rest (suc p) q r is = ap (λ rs. Some line ∷ rs) (set_behind told rest p q r (omega (arith, is)))

-- a reply that is owed stands behind the text
pub owed_not_told : (told : List (List ℕ)) (rest : List (Option (List ℕ))) (p : ℕ) → is_owed (map Some told ++ rest) p ≡ true → length told ≤ p
owed_not_told [] rest p is = omega arith
owed_not_told (line ∷ told) rest zero is = absurd (no_true is)
  where
    no_true : false ≡ true → ⊥
    no_true e = cc
owed_not_told (line ∷ told) rest (suc p) is = omega (arith, owed_not_told told rest p is)

pub owed_in_rest : (told : List (List ℕ)) (rest : List (Option (List ℕ))) (p n : ℕ) → n ≡ length told → is_owed (map Some told ++ rest) p ≡ true → is_owed rest (p - n) ≡ true
owed_in_rest told rest p n same is = sym (owed_behind told rest p (p - n) (omega (arith, same, owed_not_told told rest p is))) ∙ is
