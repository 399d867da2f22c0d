-- The words of a line, from its front.
use Rattle.std.proofs.Common.{◌≡◌, ◌∙◌, sym, ap, ℕ, ◌+◌, ◌<◌, ◌≤◌, ◌⊎◌, inl, inr, arith, true, false, List, [], ◌∷◌, length, get_or, take, drop, filter, eqb}
use Rattle.std.proofs.lemmas.Bool.{cases_lt, false≢true}
use Rattle.std.proofs.lemmas.List.Splits.{slice_split-cons_yes, length-slice_split, slice_split_first, slice_split_none}
use Rattle.std.proofs.lemmas.List.Sums.{position_or_len_is, count_by-le-length, length-filter}
use Rattle.std.proofs.lemmas.List.{get_or_default, take_all, drop_more, length-take-le}
use Rattle.std.proofs.lemmas.Bool.Decides.{nat_tests}
use Rattle.std.proofs.Math.ListN.{drop_of_length-le}
use Rattle.std.specs.List.{slice_split, position_or_len, before_first, after_first}
use Rattle.line_text.specs.Text.{words_of, is_blank, is_not_empty}

-- a blank at the front is no word
pub words-blank : (byte : ℕ) (line : List ℕ) → is_blank byte ≡ true → words_of (byte ∷ line) ≡ words_of line
words-blank byte line blank = ap (filter is_not_empty) (slice_split-cons_yes is_blank byte line blank)

filter_some : (part : List ℕ) (parts : List (List ℕ)) → 0 < length part → filter is_not_empty (part ∷ parts) ≡ part ∷ filter is_not_empty parts
filter_some part parts some = grind (arith, nat_tests)

-- some bytes that are no blank, and then a blank or the end, are the first word
pub words-first : (line : List ℕ) (n : ℕ) → 0 < n → n ≤ length line → ((k : ℕ) → k < n → is_blank (get_or line k 0) ≡ false) → (n < length line → is_blank (get_or line n 0) ≡ true)
    → words_of line ≡ take n line ∷ words_of (drop n line)
words-first line n some within word ends =
    let at : position_or_len is_blank line ≡ n = position_or_len_is is_blank line n 0 within word ends in
    elim (cases_lt n (length line)) [
      | inl more ↦
          let inside : position_or_len is_blank line < length line = omega arith in
          let cut : slice_split is_blank line ≡ before_first is_blank line ∷ slice_split is_blank (after_first is_blank line) = slice_split_first is_blank line 0 inside in
          let cut' : slice_split is_blank line ≡ take n line ∷ slice_split is_blank (drop (n + 1) line)
          = cut ∙ ap (λ (i : ℕ). take i line ∷ slice_split is_blank (drop (i + 1) line)) at in
          let rest : drop n line ≡ get_or line n 0 ∷ drop (n + 1) line = drop_more line n 0 more in
          let tail : words_of (drop n line) ≡ words_of (drop (n + 1) line) = ap words_of rest ∙ words-blank (get_or line n 0) (drop (n + 1) line) (ends more) in
          ap (filter is_not_empty) cut' ∙ filter_some (take n line) (slice_split is_blank (drop (n + 1) line)) (omega (arith, length-take-le n line within)) ∙ ap (λ ws. take n line ∷ ws) (sym tail)
      | inr all ↦
          let none : slice_split is_blank line ≡ line ∷ [] = slice_split_none is_blank line (λ k d high. ap is_blank (get_or_default line k d 0 high) ∙ word k (omega arith)) in
          let front : take n line ≡ line = take_all n line all in
          let back : drop n line ≡ [] = drop_of_length-le line all in
          ap (filter is_not_empty) none ∙ filter_some line [] (omega arith) ∙ ap (λ w. w ∷ []) (sym front) ∙ ap (λ ws. take n line ∷ ws) (sym (ap words_of back))
    ]

-- and these bytes are some, if the line doesn't begin with a blank
pub word-some : (line : List ℕ) (n : ℕ) → (line ≡ []) ⊎ (is_blank (get_or line 0 0) ≡ false) → false ≡ eqb (length line) 0 → (n < length line → is_blank (get_or line n 0) ≡ true) → 0 < n
word-some line n begins full ends =
    elim (cases_lt 0 n) [
      | inl more ↦ more
      | inr none ↦
          let zero : n ≡ 0 = omega arith in
          let some : 0 < length line = grind (arith, nat_tests) in
          absurd (elim begins [
            | inl nil ↦ omega (arith, ap length nil)
            | inr begun ↦ false≢true (sym begun ∙ ap (λ i. is_blank (get_or line i 0)) (sym zero) ∙ ends (omega arith))
          ])
    ]

-- a line has at most one word more than bytes
pub length-words_of-le : (line : List ℕ) → length (words_of line) ≤ length line + 1
length-words_of-le line =
    let parts : List (List ℕ) = slice_split is_blank line in
    omega (arith, length-filter is_not_empty parts, count_by-le-length is_not_empty parts, length-slice_split is_blank line, count_by-le-length is_blank line)
