-- Each step of the queue keeps the rule of the requests.
use Rattle.std.proofs.Common.{◌≡◌, ℕ, zero, suc, ◌+◌, ◌-◌, ◌<◌, Bool, true, false, ◌||◌, true≢false, Option, Some, None, List, [], ◌∷◌, ◌++◌, set, sym, refl, ap, ◌∙◌, arith, append-nil, zero-le, ⊎_elim, subst}
use Rattle.std.specs.List.{range_with_len}
use mathlib.Core.Option.{some, some-injective, some-ne-none}
use lib.ListN.{get_elem?}
use Rattle.crossbeam_queue.specs.Fifo.{Pushes, Pops, Forks, Merges, Learns}
use Rattle.crossbeam_queue.proofs.Lists.{at_set, at_snoc}
use Rattle.run_queues.specs.declared.requests.Part.{Part}
use Rattle.run_queues.specs.Numbers.{IsIncreasing, times, one_below, one_at}
use Rattle.run_queues.specs.Totals.{total}
use Rattle.run_queues.specs.Requests.{numbers, number_of, EndsLast, first_part, all_parts, Fits, IsInOrder, after_push, after_end, after_pop, after_split, new_consumer, joined, spent, HasDrawnAll}
use Rattle.run_queues.proofs.Totals.{total_set, total_snoc, at_most_total, two_at_most_total, total_is_one, Each, each_set}
use Rattle.run_queues.proofs.Increasing.{one_below_more, one_below_none, below_of_one, one_below_at_most, times_append, times_merged, increasing_snoc, increasing_merged}

pub no_bit : {A : Type 0} → false ≡ true → A
no_bit e = absurd (true≢false (sym e))

no_number : {A : Type 0} {x : ℕ} {xs : List ℕ} → x ∷ xs ≡ [] → A
no_number e = absurd (true≢false (ap is_full e))
  where
    is_full : List ℕ → Bool
    is_full [] = false
    is_full (z ∷ zs) = true

head_is : {x y : ℕ} {xs ys : List ℕ} → x ∷ xs ≡ y ∷ ys → x ≡ y
head_is {y = y} e = ap (first_or y) e
  where
    first_or : ℕ → List ℕ → ℕ
    first_or d [] = d
    first_or d (z ∷ zs) = z

tail_is : {x y : ℕ} {xs ys : List ℕ} → x ∷ xs ≡ y ∷ ys → xs ≡ ys
tail_is e = ap rest e
  where
    rest : List ℕ → List ℕ
    rest [] = []
    rest (z ∷ zs) = zs

numbers_snoc : {T : Type 0} (number : T → ℕ) (items : List (Option T)) (item : Option T) → numbers number (items ++ item ∷ []) ≡ numbers number items ++ number_of number item
numbers_snoc number [] item = append-nil (number_of number item)
numbers_snoc number (None ∷ items) item = numbers_snoc number items item
numbers_snoc number (Some request ∷ items) item = ap (λ l. number request ∷ l) (numbers_snoc number items item)

range_snoc : (a n : ℕ) → range_with_len a n ++ (a + n) ∷ [] ≡ range_with_len a (suc n)
range_snoc a zero = ap (λ k. k ∷ []) (omega arith)
range_snoc a (suc n) = let at : a + suc n ≡ (a + 1) + n = omega arith in ap (λ k. a ∷ (range_with_len (a + 1) n ++ k ∷ [])) at ∙ ap (λ l. a ∷ l) (range_snoc (a + 1) n)

none_waits : (taken waiting : ℕ) → range_with_len taken waiting ≡ [] → waiting ≡ 0
none_waits taken zero e = refl
none_waits taken (suc waiting) e = no_number e

no_mark : {A : Type 0} {marks : ℕ} → 0 < marks → marks ≡ 0 → A
no_mark above none = absurd (omega arith)

ends_after_request : {T : Type 0} (number : T → ℕ) (items : List (Option T)) (request : T) → EndsLast number 0 items → EndsLast number 0 (items ++ Some request ∷ [])
ends_after_request number [] request ends = tt
ends_after_request number (None ∷ items) request ends = no_mark ends.0 refl
ends_after_request number (Some first ∷ items) request ends = ends_after_request number items request ends

ends_after_end : {T : Type 0} (number : T → ℕ) (marks : ℕ) (items : List (Option T)) → EndsLast number marks items → EndsLast number (marks + 1) (items ++ None ∷ [])
ends_after_end number marks [] ends = (omega arith, refl)
ends_after_end number marks (None ∷ items) ends = (omega arith, numbers_snoc number items None ∙ append-nil (numbers number items) ∙ ends.1)
ends_after_end number marks (Some first ∷ items) ends = ends_after_end number marks items ends

only_ends : {T : Type 0} (number : T → ℕ) (marks : ℕ) (items : List (Option T)) → 0 < marks → numbers number items ≡ [] → EndsLast number marks items
only_ends number marks [] above none = tt
only_ends number marks (None ∷ items) above none = (above, none)
only_ends number marks (Some first ∷ items) above none = no_number none

-- the first pass knows all
pub begins : (T : Type 0) (number : T → ℕ) → IsInOrder {T = T} number [] (first_part ∷ [])
begins T number = (0, 0, 0, 0, refl, tt, (λ x. sym (one_below_none 0 x zero-le)), refl, first)
  where
    first : (port : ℕ) (v : Part) → get_elem? (first_part ∷ []) port ≡ some v → Fits 0 0 0 0 port v
    first zero v e = subst (Fits 0 0 0 0 0) (some-injective _ v e) (tt, (λ _. (refl, refl, refl)), (λ e. no_bit e), λ _. refl)
    first (suc port) v e = absurd (some-ne-none v (sym e))

pub pushes : {T : Type 0} (number : T → ℕ) (n port : ℕ) (v : Part) (request : T) → v.pushes ≡ true → v.marks ≡ 0 → number request ≡ v.pushed
    → Pushes (IsInOrder number) n port v (Some request) (λ w. w ≡ after_push v)
pushes number n port v request may fresh is items views room b at =
    let source = b.0 in let taken = b.1 in let waiting = b.2 in let marks = b.3 in
    let mine = b.8 port v at in
    let own = mine.1 may in
    let is_open : marks ≡ 0 = sym own.2 ∙ fresh in (
      after_push v,
      (
        source,
        taken,
        suc waiting,
        0,
        (numbers_snoc number items (Some request) ∙ ap (λ l. l ++ number request ∷ []) b.4 ∙ ap (λ k. range_with_len taken waiting ++ k ∷ []) (is ∙ own.1) ∙ range_snoc taken waiting),
        ends_after_request number items request (subst (λ n. EndsLast number n items) is_open b.5),
        (λ x. let s = total_set (λ u. times x u.drawn) views port v (after_push v) at in let p = b.6 x in omega arith),
        (let s = total_set (λ u. u.parts) views port v (after_push v) at in let p = b.7 in omega arith),
        each_set (Fits source taken waiting marks) (Fits source taken (suc waiting) 0) views port (after_push v) b.8
            (mine.0, (λ _. (own.0, (let p = own.1 in omega arith), fresh)), (λ d. no_mark (mine.2 d).0 is_open), mine.3)
            (λ j u other old. (old.0, (λ p. absurd (other ((old.1 p).0 ∙ sym own.0))), (λ d. no_mark (old.2 d).0 is_open), old.3)),
      ),
      refl,
    )

-- an end mark has no number
pub ends : {T : Type 0} (number : T → ℕ) (n port : ℕ) (v : Part) → v.pushes ≡ true → Pushes (IsInOrder {T = T} number) n port v None (λ w. w ≡ after_end v)
ends number n port v may items views room b at =
    let source = b.0 in let taken = b.1 in let waiting = b.2 in let marks = b.3 in
    let mine = b.8 port v at in
    let own = mine.1 may in (
      after_end v,
      (
        source,
        taken,
        waiting,
        marks + 1,
        (numbers_snoc number items None ∙ append-nil (numbers number items) ∙ b.4),
        ends_after_end number marks items b.5,
        (λ x. let s = total_set (λ u. times x u.drawn) views port v (after_end v) at in let p = b.6 x in omega arith),
        (let s = total_set (λ u. u.parts) views port v (after_end v) at in let p = b.7 in omega arith),
        each_set (Fits source taken waiting marks) (Fits source taken waiting (marks + 1)) views port (after_end v) b.8
            (mine.0, (λ _. (own.0, own.1, ap (λ n. n + 1) own.2)), (λ d. (omega arith, (mine.2 d).1)), mine.3)
            (λ j u other old. (old.0, (λ p. absurd (other ((old.1 p).0 ∙ sym own.0))), (λ d. (omega arith, (old.2 d).1)), old.3)),
      ),
      refl,
    )

-- what is drawn so far is below what is drawn next
drawn_below : (views : List Part) (port taken : ℕ) (v : Part) → get_elem? views port ≡ some v → ((x : ℕ) → total (λ u. times x u.drawn) views ≡ one_below taken x)
    → (x : ℕ) → 0 < times x v.drawn → x < taken
drawn_below views port taken v at once x here = let most = at_most_total (λ u. times x u.drawn) views port v at in let is = once x in below_of_one taken x (omega arith)

-- the next number, by a pass that has a part
draws_next : {T : Type 0} (number : T → ℕ) (port : ℕ) (v : Part) (request : T) (items : List (Option T)) (views : List Part) (source taken waiting marks : ℕ) → 0 < v.parts
    → number request ∷ numbers number items ≡ range_with_len taken waiting → EndsLast number marks items
    → ((x : ℕ) → total (λ u. times x u.drawn) views ≡ one_below taken x) → total (λ u. u.parts) views ≡ all_parts → Each (Fits source taken waiting marks) views
    → get_elem? views port ≡ some v
    → IsInOrder number items (set views port (after_pop number (Some request) v)) × IsIncreasing (v.drawn ++ number request ∷ [])
draws_next number port v request items views source taken zero marks has line last once parts fits at = no_number line
draws_next number port v request items views source taken (suc waiting) marks has line last once parts fits at =
    let here : number request ≡ taken = head_is line in
    let mine = fits port v at in
    let w = after_pop number (Some request) v in
    let rising : IsIncreasing (v.drawn ++ number request ∷ []) = increasing_snoc v.drawn (number request) mine.0 (λ x there. let b = drawn_below views port taken v at once x there in omega arith) in (
      (
        source,
        taken + 1,
        waiting,
        marks,
        tail_is line,
        last,
        (λ x.
            let s = total_set (λ u. times x u.drawn) views port v w at in
            let a = times_append x v.drawn (number request ∷ []) in
            let n = ap (one_at x) here in
            let m = one_below_more taken x in
            let p = once x in
            omega arith),
        (let s = total_set (λ u. u.parts) views port v w at in omega arith),
        each_set (Fits source taken (suc waiting) marks) (Fits source (taken + 1) waiting marks) views port w fits
            (rising, (λ may. pushed_still (mine.1 may)), (λ d. absurd (some_wait (mine.2 d).1)), λ none. absurd (none_here v.parts has none))
            (λ j u other old. (old.0, (λ may. pushed_still (old.1 may)), (λ d. absurd (some_wait (old.2 d).1)), old.3)),
      ),
      rising,
    )
  where
    none_here : (n : ℕ) → 0 < n → n ≡ 0 → ⊥
    none_here n h e = omega arith

    some_wait : {n : ℕ} → suc n ≡ 0 → ⊥
    some_wait e = omega arith

    pushed_still : {A B : Type 0} {n : ℕ} → A × (n ≡ taken + suc waiting) × B → A × (n ≡ (taken + 1) + waiting) × B
    pushed_still h = (h.0, (let p = h.1 in omega arith), h.2)

pub pops : {T : Type 0} (number : T → ℕ) (port : ℕ) (v : Part) → 0 < v.parts → Pops (IsInOrder {T = T} number) port v (λ item w. (w ≡ after_pop number item v) × IsIncreasing w.drawn)
pops {T = T} number port v has None items views b at =
    let mine = b.8 port v at in
    let w = after_pop {T = T} number None v in
    let fits = Fits b.0 b.1 b.2 b.3 in (
      w,
      (
        b.0,
        b.1,
        b.2,
        b.3,
        b.4,
        only_ends number b.3 items b.5.0 b.5.1,
        (λ x. let s = total_set (λ u. times x u.drawn) views port v w at in let p = b.6 x in omega arith),
        (let s = total_set (λ u. u.parts) views port v w at in let p = b.7 in omega arith),
        each_set fits fits views port w b.8 (mine.0, mine.1, (λ d. (b.5.0, none_waits b.1 b.2 (sym b.4 ∙ b.5.1))), mine.3) (λ j u other old. old),
      ),
      (refl, mine.0),
    )
pops number port v has (Some request) items views b at =
    let next = draws_next number port v request items views b.0 b.1 b.2 b.3 has b.4 b.5 b.6 b.7 b.8 at in (after_pop number (Some request) v, next.0, (refl, next.1))

-- one who draws is split off
pub forks : {T : Type 0} (number : T → ℕ) (port : ℕ) (v : Part) → 1 < v.parts → Forks (IsInOrder {T = T} number) port v (after_split v) new_consumer
forks number port v many items views b at =
    let mine = b.8 port v at in
    let w = after_split v in
    let vs = set views port w in
    let fits = Fits b.0 b.1 b.2 b.3 in
    let old = each_set fits fits views port w b.8 (mine.0, mine.1, mine.2, λ none. absurd (none_left v.parts many none)) (λ j u other o. o) in (
      b.0,
      b.1,
      b.2,
      b.3,
      b.4,
      b.5,
      (λ x.
          let s = total_set (λ u. times x u.drawn) views port v w at in
          let t = total_snoc (λ u. times x u.drawn) vs new_consumer in
          let p = b.6 x in
          omega arith),
      (let s = total_set (λ u. u.parts) views port v w at in let t = total_snoc (λ u. u.parts) vs new_consumer in let p = b.7 in omega arith),
      (λ j u e. ⊎_elim (λ x. old j u x) (λ (is : new_consumer ≡ u). subst (fits j) is (tt, (λ p. no_bit p), (λ d. no_bit d), λ none. refl)) (at_snoc vs new_consumer u j e)),
    )
  where
    none_left : (n : ℕ) → 1 < n → n - 1 ≡ 0 → ⊥
    none_left n h e = omega arith

-- one who drew comes back
pub merges : {T : Type 0} (number : T → ℕ) (port : ℕ) (v : Part) (other : ℕ) (w : Part) → 0 < v.parts → Merges (IsInOrder {T = T} number) port v other w (joined v w) spent
merges number port v other w has items views b at apart at' =
    let both = joined v w in
    let vs = set views port both in
    let fits = Fits b.0 b.1 b.2 b.3 in
    let mine = b.8 port v at in
    let was : get_elem? views other ≡ some w = ⊎_elim (λ x. absurd (apart x.0)) (λ x. x.1) (at_set views port other both w at') in
    let theirs = b.8 other w was in
    let rising = increasing_merged v.drawn w.drawn mine.0 theirs.0
    (λ x.
    let two = two_at_most_total (λ u. times x u.drawn) views port other v w both at at' apart in
    let p = b.6 x in
    let most = one_below_at_most b.1 x in
    omega arith) in
    let now = each_set fits fits views port both b.8 (rising, mine.1, (λ d. of_either v.drained w.drained mine.2 theirs.2 d), λ none. absurd (none_here v.parts w.parts has none)) (λ j u other o. o) in (
      b.0,
      b.1,
      b.2,
      b.3,
      b.4,
      b.5,
      (λ x.
          let s = total_set (λ u. times x u.drawn) views port v both at in
          let t = total_set (λ u. times x u.drawn) vs other w spent at' in
          let sum = times_merged x v.drawn w.drawn in
          let p = b.6 x in
          omega arith),
      (let s = total_set (λ u. u.parts) views port v both at in let t = total_set (λ u. u.parts) vs other w spent at' in let p = b.7 in omega arith),
      each_set fits fits vs other spent now (tt, (λ p. no_bit p), (λ d. no_bit d), λ none. refl) (λ j u other o. o),
    )
  where
    none_here : (n m : ℕ) → 0 < n → n + m ≡ 0 → ⊥
    none_here n m h e = omega arith

    of_either : {A : Type 0} (c d : Bool) → (c ≡ true → A) → (d ≡ true → A) → c || d ≡ true → A
    of_either true d first second e = first refl
    of_either false d first second e = second e

-- the pass with all parts, which pushes and took an end mark, knows that all was drawn
pub learns : {T : Type 0} (number : T → ℕ) (port : ℕ) (v : Part) → v.parts ≡ all_parts → v.pushes ≡ true → v.drained ≡ true → Learns (IsInOrder {T = T} number) port v (λ items. HasDrawnAll v)
learns number port v all may drained items views b at =
    let mine = b.8 port v at in
    let pushed : b.1 ≡ v.pushed = (let p = (mine.1 may).1 in let none = (mine.2 drained).1 in omega arith) in
    λ x.
    sym (total_is_one (λ u. u.parts) (λ u. times x u.drawn) views port v at (b.7 ∙ sym all) (λ j u e none. ap (times x) ((b.8 j u e).3 none)))
    ∙ b.6 x ∙ ap (λ n. one_below n x) pushed
