-- Each range has one list of pieces: the greedy one.
use Rattle.std.proofs.Common.{◌≡◌, ℕ, ◌+◌, ◌-◌, ◌*◌, ◌/◌, ◌%◌, ◌<◌, ◌≤◌, inl, inr, min, arith, suc, zero, List, [], ◌∷◌, sum, length, refl, ap, subst, sym, ◌∙◌}
use Rattle.std.specs.List.{All}
use Rattle.std.specs.Prelude.{◌==◌, if◌then◌else◌}
use Rattle.std.proofs.lemmas.Bool.{cases_lt, cases_eq}
use Rattle.std.proofs.lemmas.Bool.Decides.{nat_tests}
use Rattle.std.proofs.lemmas.List.Sums.{sum_by-cons}
use Rattle.std.proofs.lemmas.List.Elements.{All-nil, All-cons, All-head, All-tail}
use Rattle.std.proofs.lemmas.Grind.{div_ceil_times}
use Rattle.std.proofs.Math.Nat.{mul-le-mul_right}
use Rattle.queue_limits.specs.Bounds.{Bounds}
use Rattle.queue_limits.specs.Pieces.{IsFirstPiece, EachPiece, IsSplit}
use Rattle.queue_limits.specs.Greedy.{first_piece, greedy_pieces}
use Rattle.queue_limits.proofs.Blocks.{first_is_first, one_first, first_bounds}

pub sum-cons : (n : ℕ) (ns : List ℕ) → sum (n ∷ ns) ≡ n + sum ns
sum-cons n ns = sum_by-cons (λ x. x) n ns

pub one_list : (bounds : Bounds) (start : ℕ) (a b : List ℕ) → sum a ≡ sum b → All (λ n. 0 < n) a → All (λ n. 0 < n) b
    → EachPiece (IsFirstPiece bounds) start a → EachPiece (IsFirstPiece bounds) start b → a ≡ b
one_list bounds start [] [] e sa sb ca cb = refl
one_list bounds start [] (m ∷ ms) e sa sb ca cb = absurd (omega (arith, e, All-head (λ n. 0 < n) m ms sb, sum-cons m ms))
one_list bounds start (n ∷ ns) [] e sa sb ca cb = absurd (omega (arith, e, All-head (λ n. 0 < n) n ns sa, sum-cons n ns))
one_list bounds start (n ∷ ns) (m ∷ ms) e sa sb ca cb =
    let both : n + sum ns ≡ m + sum ms = sym (sum-cons n ns) ∙ e ∙ sum-cons m ms in
    let F : ℕ → Type 0 = λ left. IsFirstPiece bounds start left m in
    let same : n ≡ m = one_first bounds start (n + sum ns) n m ca.0 (subst F (sym both) cb.0) in
    let C : ℕ → Type 0 = λ x. EachPiece (IsFirstPiece bounds) (start + x) ms in
    let rest : ns ≡ ms = one_list bounds (start + n) ns ms (omega arith) (All-tail (λ n. 0 < n) n ns sa) (All-tail (λ n. 0 < n) m ms sb) ca.1 (subst C (sym same) cb.1) in
    cc

-- one piece more in front of a split
pub push_split : (bounds : Bounds) (start n left : ℕ) (ns : List ℕ) → 0 < n → n ≤ left → IsFirstPiece bounds start left n → IsSplit bounds (start + n) (left - n) ns → IsSplit bounds start left (n ∷ ns)
push_split bounds start n left ns pos within first rest =
    let F : ℕ → Type 0 = λ x. IsFirstPiece bounds start x n in
    let all : left ≡ n + sum ns = omega (arith, rest.joined) in
    record {
      joined = omega (arith, rest.joined, sum-cons n ns);
      non_empty = All-cons (λ n. 0 < n) n ns pos rest.non_empty;
      cut = (subst F all first, rest.cut);
    }

pub nothing_left : (bounds : Bounds) (start left : ℕ) → left ≡ 0 → IsSplit bounds start left []
nothing_left bounds start left e = record { joined = sym e; non_empty = All-nil (λ n. 0 < n); cut = tt }

-- with nothing left the greedy list is empty, whatever the turns
pub greedy_none : (turns : ℕ) (bounds : Bounds) (start : ℕ) → greedy_pieces turns bounds start 0 ≡ []
greedy_none zero bounds start = refl
greedy_none (suc turns) bounds start = refl

not_zero : (n x : ℕ) (xs : List ℕ) → 0 < n → (if n == 0 then [] else x ∷ xs) ≡ x ∷ xs
not_zero n x xs pos = grind (arith, nat_tests)

-- with something left it begins with the first piece
pub greedy_some : (turns : ℕ) (bounds : Bounds) (start left : ℕ) → 0 < left → greedy_pieces (suc turns) bounds start left
    ≡ first_piece bounds start left ∷ greedy_pieces turns bounds (start + first_piece bounds start left) (left - first_piece bounds start left)
greedy_some turns bounds start left pos = not_zero left (first_piece bounds start left) (greedy_pieces turns bounds (start + first_piece bounds start left) (left - first_piece bounds start left)) pos

-- turns that suffice all give the same list
pub greedy_turns : (a b : ℕ) (bounds : Bounds) (start left : ℕ) → 1 ≤ bounds.max → left ≤ a → left ≤ b → greedy_pieces a bounds start left ≡ greedy_pieces b bounds start left
greedy_turns zero b bounds start left pos la lb = let e : left ≡ 0 = omega arith in ap (greedy_pieces zero bounds start) e ∙ sym (ap (greedy_pieces b bounds start) e ∙ greedy_none b bounds start)
greedy_turns (suc a) zero bounds start left pos la lb = let e : left ≡ 0 = omega arith in ap (greedy_pieces (suc a) bounds start) e ∙ greedy_none (suc a) bounds start
greedy_turns (suc a) (suc b) bounds start left pos la lb =
    elim (cases_eq left 0) [
      | inl e ↦ ap (greedy_pieces (suc a) bounds start) e ∙ sym (ap (greedy_pieces (suc b) bounds start) e)
      | inr some ↦
          let fits : (0 < first_piece bounds start left) × (first_piece bounds start left ≤ left) × (first_piece bounds start left ≤ bounds.max) = first_bounds bounds start left pos (omega arith) in
          let rest : greedy_pieces a bounds (start + first_piece bounds start left) (left - first_piece bounds start left) ≡ greedy_pieces b bounds (start + first_piece bounds start left) (left - first_piece bounds start left)
          = greedy_turns a b bounds (start + first_piece bounds start left) (left - first_piece bounds start left) pos (omega arith) (omega arith) in
          greedy_some a bounds start left (omega arith) ∙ ap (λ ns. first_piece bounds start left ∷ ns) rest ∙ sym (greedy_some b bounds start left (omega arith))
    ]

pub greedy_splits : (turns : ℕ) (bounds : Bounds) (start left : ℕ) → 1 ≤ bounds.max → left ≤ turns → IsSplit bounds start left (greedy_pieces turns bounds start left)
greedy_splits zero bounds start left pos le = nothing_left bounds start left (omega arith)
greedy_splits (suc turns) bounds start left pos le =
    elim (cases_eq left 0) [
      | inl e ↦ let P : List ℕ → Type 0 = λ ns. IsSplit bounds start left ns in subst P (sym (ap (greedy_pieces (suc turns) bounds start) e)) (nothing_left bounds start left e)
      | inr some ↦
          let fits : (0 < first_piece bounds start left) × (first_piece bounds start left ≤ left) × (first_piece bounds start left ≤ bounds.max) = first_bounds bounds start left pos (omega arith) in
          let P : List ℕ → Type 0 = λ ns. IsSplit bounds start left ns in
          subst P (sym (greedy_some turns bounds start left (omega arith)))
          (push_split bounds start (first_piece bounds start left) left (greedy_pieces turns bounds (start + first_piece bounds start left) (left - first_piece bounds start left)) fits.0 fits.1 (first_is_first bounds start left)
          (greedy_splits turns bounds (start + first_piece bounds start left) (left - first_piece bounds start left) pos (omega arith)))
    ]

-- the first of what is left, and the others
pub greedy_next : (bounds : Bounds) (start left n : ℕ) → 1 ≤ bounds.max → 0 < left → n ≡ first_piece bounds start left → greedy_pieces left bounds start left ≡ n ∷ greedy_pieces (left - n) bounds (start + n) (left - n)
greedy_next bounds start left n pos some e =
    let fits : (0 < first_piece bounds start left) × (first_piece bounds start left ≤ left) × (first_piece bounds start left ≤ bounds.max) = first_bounds bounds start left pos some in
    let P : ℕ → Type 0 = λ x. greedy_pieces left bounds start left ≡ x ∷ greedy_pieces (left - x) bounds (start + x) (left - x) in
    subst P (sym e) (greedy_turns left (suc left) bounds start left pos (omega arith) (omega arith) ∙ greedy_some left bounds start left some
    ∙ ap (λ ns. first_piece bounds start left ∷ ns)
    (greedy_turns left (left - first_piece bounds start left) bounds (start + first_piece bounds start left) (left - first_piece bounds start left) pos (omega arith) (omega arith)))

-- how many pieces there are: at least as many as the limit asks for, and at most one for each sector
one_more : (most n s l : ℕ) → n ≤ most → s ≤ most * l → n + s ≤ most * suc l
one_more most n s l le h = omega arith

pub fewest_in : (turns : ℕ) (bounds : Bounds) (start left : ℕ) → 1 ≤ bounds.max → left ≤ turns → left ≤ bounds.max * length (greedy_pieces turns bounds start left)
fewest_in zero bounds start left pos le = omega arith
fewest_in (suc turns) bounds start left pos le =
    elim (cases_eq left 0) [
      | inl e ↦ omega (arith, e)
      | inr some ↦
          let fits : (0 < first_piece bounds start left) × (first_piece bounds start left ≤ left) × (first_piece bounds start left ≤ bounds.max) = first_bounds bounds start left pos (omega arith) in
          let n : ℕ = first_piece bounds start left in
          let ns : List ℕ = greedy_pieces turns bounds (start + first_piece bounds start left) (left - first_piece bounds start left) in
          let P : List ℕ → Type 0 = λ xs. left ≤ bounds.max * length xs in
          let rest : left - first_piece bounds start left ≤ bounds.max * length (greedy_pieces turns bounds (start + first_piece bounds start left) (left - first_piece bounds start left))
          = fewest_in turns bounds (start + first_piece bounds start left) (left - first_piece bounds start left) pos (omega arith) in
          subst P (sym (greedy_some turns bounds start left (omega arith)))
          (omega (arith, one_more bounds.max (first_piece bounds start left) (left - first_piece bounds start left) (length (greedy_pieces turns bounds (start + first_piece bounds start left) (left - first_piece bounds start left))) fits.2 rest))
    ]

pub fewest_pieces : (bounds : Bounds) (start left : ℕ) → 1 ≤ bounds.max → left ≤ bounds.max * length (greedy_pieces left bounds start left)
fewest_pieces bounds start left pos = fewest_in left bounds start left pos (omega arith)

count_by_sum : (ns : List ℕ) → All (λ n. 0 < n) ns → length ns ≤ sum ns
count_by_sum [] h = omega arith
count_by_sum (n ∷ ns) h = omega (arith, All-head (λ n. 0 < n) n ns h, count_by_sum ns (All-tail (λ n. 0 < n) n ns h), sum-cons n ns)

pub most_pieces : (bounds : Bounds) (start left : ℕ) → 1 ≤ bounds.max → length (greedy_pieces left bounds start left) ≤ left
most_pieces bounds start left pos =
    let split : IsSplit bounds start left (greedy_pieces left bounds start left) = greedy_splits left bounds start left pos (omega arith) in
    omega (arith, split.joined, count_by_sum (greedy_pieces left bounds start left) split.non_empty)

-- rounding up
pub ceil_fewest : (left most count : ℕ) → 0 < most → left ≤ most * count → left / most + min 1 (left % most) ≤ count
ceil_fewest left most count pos le =
    elim (cases_lt count (left / most + min 1 (left % most))) [
      | inl more ↦
          let times : (left / most + min 1 (left % most)) * most < left + most = (div_ceil_times left most pos).1 in
          let more' : count + 1 ≤ left / most + min 1 (left % most) = omega arith in
          let least : (count + 1) * most ≤ (left / most + min 1 (left % most)) * most = mul-le-mul_right most more' in
          absurd (omega arith)
      | inr few ↦ few
    ]

pub ceil_some : (left most : ℕ) → 0 < most → 0 < left → 0 < left / most + min 1 (left % most)
ceil_some left most pos some =
    elim (cases_lt 0 (left / most + min 1 (left % most))) [
      | inl more ↦ more
      | inr none ↦
          let times : left ≤ (left / most + min 1 (left % most)) * most = (div_ceil_times left most pos).0 in
          let nothing : (left / most + min 1 (left % most)) * most ≤ 0 * most = mul-le-mul_right most none in
          absurd (omega arith)
    ]
