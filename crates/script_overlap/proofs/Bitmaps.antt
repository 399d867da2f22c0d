-- Sectors that are touched where their bit is one: 64 sectors to a word.
use Rattle.std.proofs.Common.{◌≡◌, ◌≢◌, ◌∙◌, sym, ap, subst, refl, ℕ, ◌+◌, ◌-◌, ◌*◌, ◌/◌, ◌%◌, ◌^◌, ◌<◌, ◌≤◌, ◌⊎◌, inl, inr, min, max, arith, Bool, true, false, List, length, get_or, map, eqb, bit_and, bit_or, w64}
use Rattle.std.specs.Int.{bit_at, trailing_zeros}
use Rattle.std.specs.List.{range_with_len}
use Rattle.std.proofs.Math.Nat.{one-le-pow, pow-le-pow_right}
use Rattle.std.proofs.lemmas.Bool.{cases_lt}
use Rattle.std.proofs.lemmas.List.{get_or_past}
use Rattle.std.proofs.lemmas.List.FromFn.{get_or-map-range_with_len, length-map-range_with_len}
use Rattle.std.proofs.lemmas.Nat.{and_le_r}
use Rattle.std.proofs.lemmas.Nat.Bits.{bit_at_and, bit_at_or, bit_at-zero, bit_at-lt, bit_at-trailing_zeros, bit_at_mask_inside, bit_at_mask_below, bit_at_mask_above}
use Rattle.script_overlap.specs.Span.{is_touched, IsClear, Adds, TouchesOne, TouchesNone}

-- a sector's bit
pub bit_of : List ℕ → ℕ → ℕ
bit_of words sector = bit_at (get_or words (sector / 64) 0) (sector % 64)

abbrev pub marks_of : List ℕ → ℕ → List Bool
marks_of words sectors = map (λ sector. eqb (bit_at (get_or words (sector / 64) 0) (sector % 64)) 1) (range_with_len 0 sectors)

touched_below : (words : List ℕ) (sectors sector : ℕ) → sector < sectors → is_touched (marks_of words sectors) sector ≡ eqb (bit_of words sector) 1
unfolding bit_of
touched_below words sectors sector lt = get_or-map-range_with_len (λ (s : ℕ). eqb (bit_at (get_or words (s / 64) 0) (s % 64)) 1) 0 sectors sector sector false lt (omega arith)

touched_past : (words : List ℕ) (sectors sector : ℕ) → sectors ≤ sector → is_touched (marks_of words sectors) sector ≡ false
touched_past words sectors sector ge =
    get_or_past (marks_of words sectors) sector false (omega (arith, length-map-range_with_len (λ (s : ℕ). eqb (bit_at (get_or words (s / 64) 0) (s % 64)) 1) 0 sectors))

-- the mask of the sectors from `start` up to `end`, in the word whose first sector is `first`
abbrev pub mask_of : ℕ → ℕ → ℕ → ℕ
mask_of start end first = 2 ^ min (end - first) 64 - 2 ^ (start - first)

mask_inside : (start end first i : ℕ) → i < 64 → start ≤ first + i → first + i < end → bit_at (mask_of start end first) i ≡ 1
mask_inside start end first i lt low high = bit_at_mask_inside (start - first) (min (end - first) 64) i (omega arith) (omega arith)

mask_below : (start end first i : ℕ) → first + i < start → bit_at (mask_of start end first) i ≡ 0
mask_below start end first i low = bit_at_mask_below (start - first) (min (end - first) 64) i (omega arith)

mask_above : (start end first i : ℕ) → first ≤ end → end ≤ first + i → bit_at (mask_of start end first) i ≡ 0
mask_above start end first i begins high = bit_at_mask_above (start - first) (min (end - first) 64) i (omega arith)

mask_small : (start end first : ℕ) → mask_of start end first < 2 ^ 64
mask_small start end first =
    let most : 2 ^ min (end - first) 64 ≤ 2 ^ 64 = pow-le-pow_right {n = 2} (omega arith) {i = min (end - first) 64} {j = 64} (omega arith) in
    let some : 1 ≤ 2 ^ (start - first) = one-le-pow (start - first) 2 (omega arith) in
    omega arith

-- ---- bits that meet the mask

max_one : (a m : ℕ) → a < 2 → m ≡ 1 → max a m ≡ 1
max_one a m small is = omega arith

max_zero : (a m : ℕ) → m ≡ 0 → max a m ≡ a
max_zero a m is = omega arith

min_one : (a m : ℕ) → min a m ≡ 0 → m ≡ 1 → a ≡ 0
min_one a m e is = omega arith

both_one : (a m : ℕ) → a < 2 → m < 2 → min a m ≡ 1 → (a ≡ 1) × (m ≡ 1)
both_one a m small small' e = (omega arith, omega arith)

no_bit : (v start end first i : ℕ) → bit_and v (mask_of start end first) ≡ 0 → i < 64 → start ≤ first + i → first + i < end → bit_at v i ≡ 0
no_bit v start end first i none lt low high =
    min_one (bit_at v i) (bit_at (mask_of start end first) i)
    (sym (bit_at_and v (mask_of start end first) i) ∙ ap (λ (n : ℕ). bit_at n i) none ∙ bit_at-zero i)
    (mask_inside start end first i lt low high)

-- a bit that both have, and its place
record Bit (v start end first : ℕ) : Type 0 where
  pub place : ℕ
  pub within : place < 64
  pub low : start ≤ first + place
  pub high : first + place < end
  pub is : bit_at v place ≡ 1

some_bit : (v start end first : ℕ) → first ≤ end → 0 < bit_and v (mask_of start end first) → Bit v start end first
some_bit v start end first begins some =
    let m : ℕ = mask_of start end first in
    let n : ℕ = bit_and v m in
    let small : bit_and v (mask_of start end first) < 2 ^ 64 = omega (arith, mask_small start end first, and_le_r v (mask_of start end first)) in
    let t : ℕ = trailing_zeros w64 n in
    let found = bit_at-trailing_zeros w64 n some small in
    let both = both_one (bit_at v t) (bit_at m t) (bit_at-lt v t) (bit_at-lt m t) (sym (bit_at_and v m t) ∙ found.1) in
    record {
      place = t;
      within = found.0;
      low = elim (cases_lt (first + t) start) [ inl less ↦ let e : bit_at m t ≡ 0 = mask_below start end first t less in absurd (one_not_zero (bit_at m t) both.1 e) | inr more ↦ more ];
      high = elim (cases_lt (first + t) end) [ inl less ↦ less | inr more ↦ let e : bit_at m t ≡ 0 = mask_above start end first t begins more in absurd (one_not_zero (bit_at m t) both.1 e) ];
      is = both.0;
    }
  where
    one_not_zero : (b : ℕ) → b ≡ 1 → b ≡ 0 → ⊥
    one_not_zero b e f = omega arith

-- ---- a word and its sectors

word_of : (word sector : ℕ) → 64 * word ≤ sector → sector < 64 * word + 64 → sector / 64 ≡ word
word_of word sector low high = omega arith

place_of : (word sector : ℕ) → 64 * word ≤ sector → sector < 64 * word + 64 → 64 * word + sector % 64 ≡ sector
place_of word sector low high = omega arith

bit_of_word : (words : List ℕ) (word sector : ℕ) → sector / 64 ≡ word → bit_of words sector ≡ bit_at (get_or words word 0) (sector % 64)
unfolding bit_of
bit_of_word words word sector is = ap (λ (w : ℕ). bit_at (get_or words w 0) (sector % 64)) is

-- one word more without a touched sector
pub unmet_further : (words : List ℕ) (start end word v m : ℕ) → v ≡ get_or words word 0 → m ≡ mask_of start end (word * 64) → bit_and v m ≡ 0
    → ((k : ℕ) → start ≤ k → k < end → k < 64 * word → bit_of words k ≡ 0) → (k : ℕ) → start ≤ k → k < end → k < 64 * (word + 1) → bit_of words k ≡ 0
unmet_further words start end word v m is masks none before k low high lt =
    elim (cases_lt k (64 * word)) [
      | inl less ↦ before k low high less
      | inr more ↦
          let at : 64 * word + k % 64 ≡ k = place_of word k more (omega arith) in
          bit_of_word words word k (word_of word k more (omega arith)) ∙ ap (λ (n : ℕ). bit_at n (k % 64)) (sym is)
          ∙ no_bit v start end (word * 64) (k % 64) (ap (bit_and v) (sym masks) ∙ none) (omega arith) (omega arith) (omega arith)
    ]

bit_of_place : (words : List ℕ) (word place : ℕ) → place < 64 → bit_of words (64 * word + place) ≡ bit_at (get_or words word 0) place
bit_of_place words word place lt =
    let rest : (64 * word + place) % 64 ≡ place = omega arith in
    bit_of_word words word (64 * word + place) (omega arith) ∙ ap (λ (i : ℕ). bit_at (get_or words word 0) i) rest

one_touched : (bit : ℕ) → bit ≡ 1 → eqb bit 1 ≡ true
one_touched bit is = ap (λ (b : ℕ). eqb b 1) is

zero_untouched : (bit : ℕ) → bit ≡ 0 → eqb bit 1 ≡ false
zero_untouched bit is = ap (λ (b : ℕ). eqb b 1) is

pub met_one : (words : List ℕ) (sectors start count end word v m : ℕ) → end ≡ start + count → end ≤ sectors → word * 64 ≤ end → v ≡ get_or words word 0 → m ≡ mask_of start end (word * 64) → bit_and v m ≢ 0 → TouchesOne (marks_of words sectors) start count
met_one words sectors start count end word v m ends within begins is masks meets =
    let met : 0 < bit_and v m = some_number (bit_and v m) meets in
    let P : ℕ → Type 0 = λ n. 0 < bit_and v n in
    let b = some_bit v start end (word * 64) begins (subst P masks met) in
    let sector : ℕ = 64 * word + b.place in
    let bit : bit_of words (64 * word + b.place) ≡ 1 = bit_of_place words word b.place b.within ∙ ap (λ (n : ℕ). bit_at n b.place) (sym is) ∙ b.is in
    record {
      sector = sector;
      from_start = omega (arith, b.low);
      to_end = omega (arith, b.high);
      touched = touched_below words sectors sector (omega (arith, b.high)) ∙ one_touched (bit_of words (64 * word + b.place)) bit;
    }
  where
    some_number : (n : ℕ) → n ≢ 0 → 0 < n
    some_number n some = omega arith

pub met_none : (words : List ℕ) (sectors start count : ℕ) → start + count ≤ sectors → ((k : ℕ) → start ≤ k → k < start + count → bit_of words k ≡ 0) → TouchesNone (marks_of words sectors) start count
met_none words sectors start count within none k low high = touched_below words sectors k (omega arith) ∙ zero_untouched (bit_of words k) (none k low high)

-- ---- a word that is set

-- one word was set to its old bits and those of a mask
pub record Sets (old new : List ℕ) (start end word : ℕ) : Type 0 where
  pub here : get_or new word 0 ≡ bit_or (get_or old word 0) (mask_of start end (word * 64))
  pub others : (k : ℕ) → k ≢ word → get_or new k 0 ≡ get_or old k 0

pub set_inside : (old new : List ℕ) (start end word sector : ℕ) → Sets old new start end word → 64 * word ≤ sector → sector < 64 * word + 64 → start ≤ sector → sector < end → bit_of new sector ≡ 1
set_inside old new start end word sector sets low high from to =
    let m : ℕ = mask_of start end (word * 64) in
    let at : 64 * word + sector % 64 ≡ sector = place_of word sector low high in
    bit_of_word new word sector (word_of word sector low high) ∙ ap (λ (n : ℕ). bit_at n (sector % 64)) sets.here ∙ bit_at_or (get_or old word 0) m (sector % 64)
    ∙ max_one (bit_at (get_or old word 0) (sector % 64)) (bit_at m (sector % 64)) (bit_at-lt (get_or old word 0) (sector % 64)) (mask_inside start end (word * 64) (sector % 64) (omega arith) (omega arith) (omega arith))

set_other_word : (old new : List ℕ) (start end word sector : ℕ) → Sets old new start end word → sector / 64 ≢ word → bit_of new sector ≡ bit_of old sector
unfolding bit_of
set_other_word old new start end word sector sets other = ap (λ (n : ℕ). bit_at n (sector % 64)) (sets.others (sector / 64) other)

set_out_of_range : (old new : List ℕ) (start end word sector : ℕ) → Sets old new start end word → word * 64 ≤ end → sector / 64 ≡ word → (sector < start) ⊎ (end ≤ sector) → bit_of new sector ≡ bit_of old sector
set_out_of_range old new start end word sector sets begins here outside =
    let m : ℕ = mask_of start end (word * 64) in
    let at : 64 * word + sector % 64 ≡ sector = omega arith in
    let none : bit_at (mask_of start end (word * 64)) (sector % 64) ≡ 0 = elim outside [
      | inl low ↦ mask_below start end (word * 64) (sector % 64) (omega arith)
      | inr high ↦ mask_above start end (word * 64) (sector % 64) begins (omega arith)
    ] in
    bit_of_word new word sector here ∙ ap (λ (n : ℕ). bit_at n (sector % 64)) sets.here ∙ bit_at_or (get_or old word 0) m (sector % 64)
    ∙ max_zero (bit_at (get_or old word 0) (sector % 64)) (bit_at m (sector % 64)) none ∙ sym (bit_of_word old word sector here)

pub set_outside : (old new : List ℕ) (start end word sector : ℕ) → Sets old new start end word → word * 64 ≤ end → (sector < start) ⊎ (end ≤ sector) → bit_of new sector ≡ bit_of old sector
set_outside old new start end word sector sets begins outside =
    elim (cases_lt (sector / 64) word) [
      | inl less ↦ set_other_word old new start end word sector sets (λ e. omega arith)
      | inr more ↦ elim (cases_lt word (sector / 64)) [
        | inl less ↦ set_other_word old new start end word sector sets (λ e. omega arith)
        | inr more' ↦ set_out_of_range old new start end word sector sets begins (omega arith) outside
      ]
    ]

-- one word more whose sectors are touched
pub set_further : (old new : List ℕ) (start end word : ℕ) → Sets old new start end word → ((k : ℕ) → start ≤ k → k < end → k < 64 * word → bit_of old k ≡ 1)
    → (k : ℕ) → start ≤ k → k < end → k < 64 * (word + 1) → bit_of new k ≡ 1
set_further old new start end word sets before k low high lt =
    elim (cases_lt k (64 * word)) [
      | inl less ↦ set_other_word old new start end word k sets (λ e. omega arith) ∙ before k low high less
      | inr more ↦ set_inside old new start end word k sets more (omega arith) low high
    ]

same_touched : (old new : List ℕ) (sectors sector : ℕ) → bit_of new sector ≡ bit_of old sector → is_touched (marks_of new sectors) sector ≡ is_touched (marks_of old sectors) sector
same_touched old new sectors sector same =
    elim (cases_lt sector sectors) [
      | inl less ↦ touched_below new sectors sector less ∙ ap (λ (b : ℕ). eqb b 1) same ∙ sym (touched_below old sectors sector less)
      | inr more ↦ touched_past new sectors sector more ∙ sym (touched_past old sectors sector more)
    ]

pub length-marks_of : (words : List ℕ) (sectors : ℕ) → length (marks_of words sectors) ≡ sectors
length-marks_of words sectors = length-map-range_with_len (λ (s : ℕ). eqb (bit_at (get_or words (s / 64) 0) (s % 64)) 1) 0 sectors

pub adds_bits : (old new : List ℕ) (sectors start count : ℕ) → start + count ≤ sectors
    → ((k : ℕ) → start ≤ k → k < start + count → bit_of new k ≡ 1)
    → ((k : ℕ) → (k < start) ⊎ (start + count ≤ k) → bit_of new k ≡ bit_of old k)
    → Adds (marks_of old sectors) (marks_of new sectors) start count
adds_bits old new sectors start count within inside outside = record {
  sectors = length-marks_of new sectors ∙ sym (length-marks_of old sectors);
  inside = λ k low high. touched_below new sectors k (omega arith) ∙ one_touched (bit_of new k) (inside k low high);
  below = λ k low. same_touched old new sectors k (outside k (inl low));
  above = λ k high. same_touched old new sectors k (outside k (inr high));
}

pub clear_bits : (words : List ℕ) (sectors : ℕ) → ((k : ℕ) → get_or words k 0 ≡ 0) → IsClear (marks_of words sectors)
clear_bits words sectors zeros sector =
    elim (cases_lt sector sectors) [
      | inl less ↦
          touched_below words sectors sector less
          ∙ zero_untouched (bit_of words sector) (bit_of_word words (sector / 64) sector refl ∙ ap (λ (n : ℕ). bit_at n (sector % 64)) (zeros (sector / 64)) ∙ bit_at-zero (sector % 64))
      | inr more ↦ touched_past words sectors sector more
    ]
