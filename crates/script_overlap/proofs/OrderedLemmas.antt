-- The ordered requests of a script, one line further, and that there is one list of them.
use Rattle.std.proofs.Common.{◌≡◌, ◌∙◌, refl, sym, ap, subst, ℕ, zero, suc, ◌+◌, ◌<◌, ◌≤◌, ◌⊎◌, inl, inr, arith, List, [], ◌∷◌, ◌++◌, length, map, Some, None, Contains, AllPairs, get_or}
use Rattle.std.proofs.lemmas.Bool.{cases_lt}
use Rattle.std.proofs.lemmas.List.Elements.{Contains-append_left, Contains-push, Contains-push_cases}
use Rattle.std.proofs.lemmas.List.Quantifiers.{all_pairs_push}
use Rattle.std.proofs.lemmas.Option.{slice_get_past}
use Rattle.std.specs.Option.{option_and_then}
use Rattle.script_meaning.specs.Requests.{accepted_at, number_at, queue_at}
use Rattle.script_meaning.specs.Script.{Meant}
use Rattle.script_meaning.specs.Taken.{accepted}
use Rattle.script_meaning.specs.declared.script.Line.{Line}
use Rattle.script_meaning.specs.declared.script.Version.{Version}
use Rattle.script_meaning.specs.declared.script.Version.TheVariants.{One, Two}
use Rattle.script_overlap.specs.Ordered.{MustWait, AreOrdered, AreOrderedLines, AreDrainsOf, IsOneOrder, IsOneListOfDrains, PartsAllClashes}
use Rattle.script_overlap.proofs.PartnerLemmas.{before_or_here}

-- whether a request waits rests on the ordered ones before it alone
pub waits_too : (script : Meant) (a b : List ℕ) (p : ℕ) → ((q : ℕ) → q < p → Contains b q → Contains a q) → MustWait script a p → MustWait script b p
waits_too script a b p fewer w = record {
  earlier = w.earlier;
  first = w.first;
  second = w.second;
  first_accepted = w.first_accepted;
  second_accepted = w.second_accepted;
  in_order = w.in_order;
  joins = λ between low high. let parts = w.joins between low high in (parts.0, λ there. parts.1 (fewer between high there));
  clash = w.clash;
}

-- the ordered requests before a position
pub record AreOrderedUpTo (script : Meant) (ordered : List ℕ) (here : ℕ) : Type 0 where
  pub ascending : AllPairs (λ earlier later. earlier < later) ordered
  pub below : (p : ℕ) → Contains ordered p → p < here
  pub wait : (p : ℕ) → Contains ordered p → MustWait script ordered p
  pub all : (p : ℕ) → p < here → MustWait script ordered p → Contains ordered p

contains_none : (p : ℕ) → Contains [] p → ⊥
contains_none p there = omega (arith, there.1)

pub none_up_to : (script : Meant) → AreOrderedUpTo script [] 0
none_up_to script = record {
  ascending = λ i j d low high. absurd (omega (arith, high));
  below = λ p there. absurd (contains_none p there);
  wait = λ p there. absurd (contains_none p there);
  all = λ p low w. absurd (omega arith);
}

pub up_to_further : (script : Meant) (ordered : List ℕ) (i : ℕ) → (MustWait script ordered i → ⊥) → AreOrderedUpTo script ordered i → AreOrderedUpTo script ordered (i + 1)
up_to_further script ordered i joins before = record {
  ascending = before.ascending;
  below = λ p there. omega (arith, before.below p there);
  wait = before.wait;
  all = λ p low w.
      elim (before_or_here p i low) [
        | inl lt ↦ before.all p lt w
        | inr is ↦ absurd (joins (subst (MustWait script ordered) is w))
      ];
}

pushed_before : (ordered : List ℕ) (i q : ℕ) → q < i → Contains (ordered ++ i ∷ []) q → Contains ordered q
pushed_before ordered i q low there =
    elim (Contains-push_cases ordered i q there) [
      | inl before ↦ before
      | inr is ↦ absurd (omega (arith, is))
    ]

pub not_yet : (script : Meant) (ordered : List ℕ) (i : ℕ) → AreOrderedUpTo script ordered i → Contains ordered i → ⊥
not_yet script ordered i before there = omega (arith, before.below i there)

item_below : (ordered : List ℕ) (k d i : ℕ) → k < length ordered → ((p : ℕ) → Contains ordered p → p < i) → get_or ordered k d < i
item_below ordered k d i inside below = below (get_or ordered k d) (k, inside, same_default ordered k (get_or ordered k d) d inside)
  where
    same_default : (xs : List ℕ) (k a b : ℕ) → k < length xs → get_or xs k a ≡ get_or xs k b
    same_default [] k a b inside = absurd (omega (arith, inside))
    same_default (x ∷ xs) zero a b inside = refl
    same_default (x ∷ xs) (suc k) a b inside = same_default xs k a b (omega (arith, inside))

pub up_to_pushed : (script : Meant) (ordered : List ℕ) (i : ℕ) → MustWait script ordered i → AreOrderedUpTo script ordered i → AreOrderedUpTo script (ordered ++ i ∷ []) (i + 1)
up_to_pushed script ordered i waits before = record {
  ascending = all_pairs_push (λ earlier later. earlier < later) ordered i before.ascending (λ k d inside. item_below ordered k d i inside before.below);
  below = λ p there.
      elim (Contains-push_cases ordered i p there) [
        | inl old ↦ omega (arith, before.below p old)
        | inr is ↦ omega (arith, is)
      ];
  wait = λ p there.
      elim (Contains-push_cases ordered i p there) [
        | inl old ↦ waits_too script ordered (ordered ++ i ∷ []) p (λ q low. pushed_before ordered i q (omega (arith, before.below p old))) (before.wait p old)
        | inr is ↦ subst (MustWait script (ordered ++ i ∷ [])) is (waits_too script ordered (ordered ++ i ∷ []) i (λ q low. pushed_before ordered i q low) waits)
      ];
  all = λ p low w.
      elim (before_or_here p i low) [
        | inl lt ↦ Contains-append_left ordered (i ∷ []) p (before.all p lt (waits_too script (ordered ++ i ∷ []) ordered p (λ q below there. Contains-append_left ordered (i ∷ []) q there) w))
        | inr is ↦ subst (Contains (ordered ++ i ∷ [])) (sym is) (Contains-push ordered i)
      ];
}

-- past the last line nothing waits
pub all_ordered : (script : Meant) (ordered : List ℕ) (i : ℕ) → length script.lines ≤ i → AreOrderedUpTo script ordered i → AreOrdered script ordered
all_ordered script ordered i last before = record {
  ascending = before.ascending;
  wait = before.wait;
  all = λ p w.
      elim (cases_lt p i) [
        | inl less ↦ before.all p less w
        | inr more ↦
            let past : accepted_at script p ≡ None = ap (option_and_then (λ (line : Line). accepted (queue_at script p) line.what)) (slice_get_past script.lines p (omega arith)) in
            let there : accepted_at script p ≡ Some w.second = w.second_accepted in
            cc
      ];
}

-- ---- one list

record Agree (a b : List ℕ) (p : ℕ) : Type 0 where
  pub to : Contains a p → Contains b p
  pub from : Contains b p → Contains a p

agree_below : (script : Meant) (a b : List ℕ) → AreOrdered script a → AreOrdered script b → (n p : ℕ) → p < n → Agree a b p
agree_below script a b x y zero p low = absurd (omega arith)
agree_below script a b x y (suc n) p low = record {
  to = λ there. y.all p (waits_too script a b p (λ q before inside. (agree_below script a b x y n q (omega arith)).from inside) (x.wait p there));
  from = λ there. x.all p (waits_too script b a p (λ q before inside. (agree_below script a b x y n q (omega arith)).to inside) (y.wait p there));
}

-- ascending lists with the same items are one
above_head : (x : ℕ) (xs : List ℕ) (p : ℕ) → AllPairs (λ e l. e < l) (x ∷ xs) → Contains xs p → x < p
above_head x xs p ascending there = subst (λ n. x < n) there.2 (above_at x xs there.0 p (ascending 0 (suc there.0) p (omega arith) (omega (arith, there.1))))
  where
    above_at : (x : ℕ) (xs : List ℕ) (k p : ℕ) → get_or (x ∷ xs) 0 p < get_or (x ∷ xs) (suc k) p → x < get_or xs k p
    above_at x xs k p e = e

tail_ascends : (x : ℕ) (xs : List ℕ) → AllPairs (λ e l. e < l) (x ∷ xs) → AllPairs (λ e l. e < l) xs
tail_ascends x xs ascending = λ i j d low high. ascending (suc i) (suc j) d (omega arith) (omega (arith, high))

head_or_tail : (x : ℕ) (xs : List ℕ) (p : ℕ) → Contains (x ∷ xs) p → (x ≡ p) ⊎ Contains xs p
head_or_tail x xs p (zero, inside, is) = inl is
head_or_tail x xs p (suc k, inside, is) = inr (k, omega (arith, inside), is)

has_head : (x : ℕ) (xs : List ℕ) → Contains (x ∷ xs) x
has_head x xs = (0, omega arith, refl)

has_tail : (x : ℕ) (xs : List ℕ) (p : ℕ) → Contains xs p → Contains (x ∷ xs) p
has_tail x xs p (k, inside, is) = (suc k, omega (arith, inside), is)

same_list : (xs ys : List ℕ) → AllPairs (λ e l. e < l) xs → AllPairs (λ e l. e < l) ys → ((p : ℕ) → Agree xs ys p) → xs ≡ ys
same_list [] [] a b agree = refl
same_list [] (y ∷ ys) a b agree = absurd (contains_none y ((agree y).from (has_head y ys)))
same_list (x ∷ xs) [] a b agree = absurd (contains_none x ((agree x).to (has_head x xs)))
same_list (x ∷ xs) (y ∷ ys) a b agree =
    let heads : x ≡ y = elim (head_or_tail y ys x ((agree x).to (has_head x xs))) [
      | inl is ↦ sym is
      | inr above ↦ elim (head_or_tail x xs y ((agree y).from (has_head y ys))) [
        | inl is ↦ is
        | inr above' ↦ absurd (omega (arith, above_head y ys x b above, above_head x xs y a above'))
      ]
    ] in
    let tails : xs ≡ ys = same_list xs ys (tail_ascends x xs a) (tail_ascends y ys b) (λ p. record {
      to = λ there. elim (head_or_tail y ys p ((agree p).to (has_tail x xs p there))) [
        | inl is ↦ absurd (omega (arith, above_head x xs p a there, heads, is))
        | inr inside ↦ inside
      ];
      from = λ there. elim (head_or_tail x xs p ((agree p).from (has_tail y ys p there))) [
        | inl is ↦ absurd (omega (arith, above_head y ys p b there, heads, is))
        | inr inside ↦ inside
      ];
    }) in
    ap (λ z. z ∷ xs) heads ∙ ap (λ zs. y ∷ zs) tails

pub one_order : IsOneOrder
one_order script a b x y = same_list a b x.ascending y.ascending (λ p. agree_below script a b x y (p + 1) p (omega arith))

same_numbers : (a b : List ℕ) → map Some a ≡ map Some b → a ≡ b
same_numbers [] [] e = refl
same_numbers [] (y ∷ ys) e = cc
same_numbers (x ∷ xs) [] e = cc
same_numbers (x ∷ xs) (y ∷ ys) e =
    let heads : x ≡ y = cc in
    let rest : map Some xs ≡ map Some ys = cc in
    ap (λ z. z ∷ xs) heads ∙ ap (λ zs. y ∷ zs) (same_numbers xs ys rest)

one_list_of_lines : (script : Meant) (a b : List ℕ) → AreOrderedLines script a → AreOrderedLines script b → a ≡ b
one_list_of_lines script a b x y = same_numbers a b (sym x.numbers ∙ ap (map (number_at script)) (one_order script x.positions y.positions x.ordered y.ordered) ∙ y.numbers)

one_list : (version : Version) (script : Meant) (a b : List ℕ) → AreDrainsOf version script a → AreDrainsOf version script b → a ≡ b
one_list One script a b x y = x ∙ sym y
one_list Two script a b x y = one_list_of_lines script a b x y

pub one_list_of_drains : IsOneListOfDrains
one_list_of_drains script = one_list script.version script

pub parts_all_clashes : PartsAllClashes
parts_all_clashes script ordered are earlier later first second first_accepted second_accepted in_order joins not_ordered clash =
    not_ordered (are.all later (record { earlier = earlier; first = first; second = second; first_accepted = first_accepted; second_accepted = second_accepted; in_order = in_order; joins = joins; clash = clash }))
