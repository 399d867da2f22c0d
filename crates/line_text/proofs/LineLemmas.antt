-- The lines of a text, from its front.
use Rattle.std.proofs.Common.{◌≡◌, ◌∙◌, ap, refl, ℕ, ◌+◌, ◌<◌, ◌≤◌, arith, Bool, true, false, List, [], ◌∷◌, length, get_or, take, drop, map, eqb, cond}
use Rattle.std.proofs.lemmas.Bool.Decides.{nat_tests}
use Rattle.std.proofs.lemmas.List.Splits.{slice_split_first, slice_split_none, length-slice_split}
use Rattle.std.proofs.lemmas.List.Sums.{position_or_len_is, count_by-le-length}
use Rattle.std.proofs.lemmas.List.{get_or_default, length-map}
use Rattle.std.specs.List.{slice_split, position_or_len}
use Rattle.std.specs.Str.Lines.{strip_carriage_return}
use Rattle.line_text.specs.Text.{lines_of, is_line_feed, without_empty_last}

-- a part that is not the last stays, empty or not
without_empty_last-cons : (part : List ℕ) (parts : List (List ℕ)) → 0 < length parts → without_empty_last (part ∷ parts) ≡ part ∷ without_empty_last parts
without_empty_last-cons part [] some = absurd (omega arith)
without_empty_last-cons part (next ∷ parts) some = refl

without_empty_last-one : (part : List ℕ) → 0 < length part → without_empty_last (part ∷ []) ≡ part ∷ []
without_empty_last-one part some = grind (arith, nat_tests)

-- what stands before the first line feed is the first line
pub lines-first : (text : List ℕ) (n : ℕ) → n < length text → ((k : ℕ) → k < n → is_line_feed (get_or text k 0) ≡ false) → is_line_feed (get_or text n 0) ≡ true
    → lines_of text ≡ strip_carriage_return (take n text) ∷ lines_of (drop (n + 1) text)
lines-first text n inside before here =
    let at : position_or_len is_line_feed text ≡ n = position_or_len_is is_line_feed text n 0 (omega arith) before (λ _. here) in
    let within : position_or_len is_line_feed text < length text = omega arith in
    let cut : slice_split is_line_feed text ≡ take n text ∷ slice_split is_line_feed (drop (n + 1) text)
    = slice_split_first is_line_feed text 0 within ∙ ap (λ (i : ℕ). take i text ∷ slice_split is_line_feed (drop (i + 1) text)) at in
    let some : 0 < length (slice_split is_line_feed (drop (n + 1) text)) = omega (arith, length-slice_split is_line_feed (drop (n + 1) text)) in
    ap (λ (parts : List (List ℕ)). map strip_carriage_return (without_empty_last parts)) cut
    ∙ ap (map strip_carriage_return) (without_empty_last-cons (take n text) (slice_split is_line_feed (drop (n + 1) text)) some)

-- with no line feed the text is one line
pub lines-last : (text : List ℕ) → 0 < length text → ((k : ℕ) → k < length text → is_line_feed (get_or text k 0) ≡ false) → lines_of text ≡ strip_carriage_return text ∷ []
lines-last text some none =
    let one : slice_split is_line_feed text ≡ text ∷ [] = slice_split_none is_line_feed text (λ k d high. ap is_line_feed (get_or_default text k d 0 high) ∙ none k high) in
    ap (λ (parts : List (List ℕ)). map strip_carriage_return (without_empty_last parts)) one
    ∙ ap (map strip_carriage_return) (without_empty_last-one text some)

pub is_false : (b : Bool) → (b ≡ true → ⊥) → b ≡ false
is_false true h = absurd (h refl)
is_false false h = refl

length-without_empty_last-le : (parts : List (List ℕ)) → length (without_empty_last parts) ≤ length parts
length-without_empty_last-le [] = omega arith
length-without_empty_last-le (part ∷ []) =
    elim (eqb (length part) 0) as (λ b. length (cond b [] (part ∷ [])) ≤ 1) [ true ↦ omega arith | false ↦ omega arith ]
length-without_empty_last-le (part ∷ next ∷ parts) = omega (arith, length-without_empty_last-le (next ∷ parts))

-- a text has at most one line more than bytes
pub length-lines_of-le : (text : List ℕ) → length (lines_of text) ≤ length text + 1
length-lines_of-le text =
    let parts : List (List ℕ) = slice_split is_line_feed text in
    omega (
      arith,
      length-map (without_empty_last (slice_split is_line_feed text)) strip_carriage_return,
      length-without_empty_last-le (slice_split is_line_feed text),
      length-slice_split is_line_feed text,
      count_by-le-length is_line_feed text,
    )
