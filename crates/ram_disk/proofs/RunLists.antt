-- Lists of maximal runs: how one grows at its end, and that the same bytes have only one.
use Rattle.std.proofs.Common.{◌≡◌, ◌≢◌, ℕ, zero, suc, ◌+◌, ◌-◌, ◌<◌, ◌≤◌, List, [], ◌∷◌, ◌++◌, length, get_or, set, take, replicate, Some, All, refl, sym, ap, subst, ◌∙◌, append_assoc, length-append, arith}
use Rattle.std.proofs.lemmas.List.{append-nil, replicate-append-replicate, length-replicate, take_more, take_all, set_at, length-take-le}
use Rattle.std.proofs.lemmas.List.Elements.{All-nil, All-cons, All-append, All-push, All-pop, All-head, All-tail}
use Rattle.ram_disk.specs.Runs.{bytes_of_runs, NeighboursDiffer, IsRuns}

abbrev IsPositive : ℕ × ℕ → Type 0
IsPositive run = 0 < run.1

-- ---- the bytes of runs

bytes_of_runs-append : (runs others : List (ℕ × ℕ)) → bytes_of_runs (runs ++ others) ≡ bytes_of_runs runs ++ bytes_of_runs others
bytes_of_runs-append [] others = refl
bytes_of_runs-append (run ∷ runs) others =
    ap (λ bytes. replicate run.1 run.0 ++ bytes) (bytes_of_runs-append runs others)
    ∙ sym (append_assoc (replicate run.1 run.0) (bytes_of_runs runs) (bytes_of_runs others))

pub bytes_of_runs-push : (runs : List (ℕ × ℕ)) (run : ℕ × ℕ) → bytes_of_runs (runs ++ run ∷ []) ≡ bytes_of_runs runs ++ replicate run.1 run.0
bytes_of_runs-push runs run =
    bytes_of_runs-append runs (run ∷ []) ∙ ap (λ bytes. bytes_of_runs runs ++ bytes) (append-nil (replicate run.1 run.0))

-- the last run is no longer than the bytes
pub last_run-le : (runs : List (ℕ × ℕ)) (run : ℕ × ℕ) (bytes : List ℕ) → IsRuns (runs ++ run ∷ []) bytes → run.1 ≤ length bytes
last_run-le runs run bytes is =
    let e = ap length (sym (bytes_of_runs-push runs run) ∙ is.whole) in
    omega (arith, e, length-append (bytes_of_runs runs) (replicate run.1 run.0), length-replicate run.1 run.0)

-- ---- a list of runs that grows

NeighboursDiffer-last : (runs : List (ℕ × ℕ)) (run other : ℕ × ℕ) → run.0 ≡ other.0 → NeighboursDiffer (runs ++ run ∷ []) → NeighboursDiffer (runs ++ other ∷ [])
NeighboursDiffer-last [] run other same differ = tt
NeighboursDiffer-last (first ∷ []) run other same differ = (λ e. differ.0 (e ∙ sym same), tt)
NeighboursDiffer-last (first ∷ next ∷ runs) run other same differ = (differ.0, NeighboursDiffer-last (next ∷ runs) run other same differ.1)

NeighboursDiffer-push : (runs : List (ℕ × ℕ)) (run other : ℕ × ℕ) → run.0 ≢ other.0 → NeighboursDiffer (runs ++ run ∷ []) → NeighboursDiffer ((runs ++ run ∷ []) ++ other ∷ [])
NeighboursDiffer-push [] run other apart differ = (apart, tt)
NeighboursDiffer-push (first ∷ []) run other apart differ = (differ.0, (apart, tt))
NeighboursDiffer-push (first ∷ next ∷ runs) run other apart differ = (differ.0, NeighboursDiffer-push (next ∷ runs) run other apart differ.1)

-- no bytes have no runs
pub no_runs : IsRuns [] []
no_runs = record { whole = refl; not_empty = All-nil IsPositive; maximal = tt }

-- the first run
pub first_run : (byte count : ℕ) → 0 < count → IsRuns ((byte, count) ∷ []) (replicate count byte)
first_run byte count some =
    record { whole = append-nil (replicate count byte); not_empty = All-push IsPositive [] (byte, count) (All-nil IsPositive) some; maximal = tt }

-- the last run gets longer
pub longer_run : (runs : List (ℕ × ℕ)) (byte length count : ℕ) (bytes : List ℕ) → IsRuns (runs ++ (byte, length) ∷ []) bytes → IsRuns (runs ++ (byte, length + count) ∷ []) (bytes ++ replicate count byte)
longer_run runs byte length count bytes is =
    let others = All-pop IsPositive (runs ++ (byte, length) ∷ []) runs (Some (byte, length)) refl is.not_empty in
    let some : 0 < length + count = omega (arith, others.1) in
    record {
      whole = bytes_of_runs-push runs (byte, length + count)
          ∙ ap (λ more. bytes_of_runs runs ++ more) (sym (replicate-append-replicate length count byte))
          ∙ sym (append_assoc (bytes_of_runs runs) (replicate length byte) (replicate count byte))
          ∙ ap (λ before. before ++ replicate count byte) (sym (bytes_of_runs-push runs (byte, length)) ∙ is.whole);
      not_empty = All-push IsPositive runs (byte, length + count) others.0 some;
      maximal = NeighboursDiffer-last runs (byte, length) (byte, length + count) refl is.maximal;
    }

-- a run of another byte follows
pub next_run : (runs : List (ℕ × ℕ)) (last : ℕ × ℕ) (byte count : ℕ) (bytes : List ℕ) → IsRuns (runs ++ last ∷ []) bytes → last.0 ≢ byte → 0 < count → IsRuns ((runs ++ last ∷ []) ++ (byte, count) ∷ []) (bytes ++ replicate count byte)
next_run runs last byte count bytes is apart some =
    record {
      whole = bytes_of_runs-push (runs ++ last ∷ []) (byte, count) ∙ ap (λ before. before ++ replicate count byte) is.whole;
      not_empty = All-push IsPositive (runs ++ last ∷ []) (byte, count) is.not_empty some;
      maximal = NeighboursDiffer-push runs last (byte, count) apart is.maximal;
    }

-- ---- the same, if the last run is read at its index

split_last : (runs : List (ℕ × ℕ)) (last : ℕ × ℕ) → 0 < length runs → last ≡ get_or runs (length runs - 1) last → runs ≡ take (length runs - 1) runs ++ last ∷ []
split_last runs last some is =
    sym (take_all (length runs - 1 + 1) runs (omega arith)) ∙ take_more runs (length runs - 1) last (omega arith)
    ∙ ap (λ run. take (length runs - 1) runs ++ run ∷ []) (sym is)

pub last_at-le : (runs : List (ℕ × ℕ)) (last : ℕ × ℕ) (bytes : List ℕ) → 0 < length runs → last ≡ get_or runs (length runs - 1) last → IsRuns runs bytes → last.1 ≤ length bytes
last_at-le runs last bytes some is maximal =
    last_run-le (take (length runs - 1) runs) last bytes (subst (λ r. IsRuns r bytes) (split_last runs last some is) maximal)

pub longer_last : (runs : List (ℕ × ℕ)) (last : ℕ × ℕ) (count : ℕ) (bytes : List ℕ) → 0 < length runs → last ≡ get_or runs (length runs - 1) last → IsRuns runs bytes → IsRuns (set runs (length runs - 1) (last.0, last.1 + count)) (bytes ++ replicate count last.0)
longer_last runs last count bytes some is maximal =
    let before = take (length runs - 1) runs in
    let e = split_last runs last some is in
    let longer = longer_run before last.0 last.1 count bytes (subst (λ r. IsRuns r bytes) e maximal) in
    let written = ap (λ r. set r (length runs - 1) (last.0, last.1 + count)) e ∙ set_at before last [] (last.0, last.1 + count) (length runs - 1) (length-take-le (length runs - 1) runs (omega arith)) in
    subst (λ r. IsRuns r (bytes ++ replicate count last.0)) (sym written) longer

pub next_after : (runs : List (ℕ × ℕ)) (last : ℕ × ℕ) (byte count : ℕ) (bytes : List ℕ) → 0 < length runs → last ≡ get_or runs (length runs - 1) last → IsRuns runs bytes → last.0 ≢ byte → 0 < count → IsRuns (runs ++ (byte, count) ∷ []) (bytes ++ replicate count byte)
next_after runs last byte count bytes any is maximal apart some =
    let e = split_last runs last any is in
    let next = next_run (take (length runs - 1) runs) last byte count bytes (subst (λ r. IsRuns r bytes) e maximal) apart some in
    subst (λ r. IsRuns (r ++ (byte, count) ∷ []) (bytes ++ replicate count byte)) (sym e) next

pub first_after : (runs : List (ℕ × ℕ)) (byte count : ℕ) (bytes : List ℕ) → length runs ≡ 0 → IsRuns runs bytes → 0 < count → IsRuns (runs ++ (byte, count) ∷ []) (bytes ++ replicate count byte)
first_after [] byte count bytes none maximal some = subst (λ b. IsRuns ((byte, count) ∷ []) (b ++ replicate count byte)) maximal.whole (first_run byte count some)
first_after (run ∷ runs) byte count bytes none maximal some = absurd (omega arith)

-- ---- one list of runs

-- the bytes don't begin with this one
abbrev StartsElsewhere : ℕ → List ℕ → Type 0
StartsElsewhere byte [] = Unit {0}
StartsElsewhere byte (first ∷ bytes) = byte ≢ first

-- a copied byte is taken off both
StartsElsewhere-append : (byte count : ℕ) (bytes : List ℕ) → 0 < count → StartsElsewhere byte (replicate count byte ++ bytes) → ⊥
StartsElsewhere-append byte zero bytes some starts = absurd (omega arith)
StartsElsewhere-append byte (suc count) bytes some starts = starts refl

-- if two lists of copies of a byte go on with another byte, they have as many copies and go on alike
same_copies : (byte count other : ℕ) (bytes others : List ℕ) → StartsElsewhere byte bytes → StartsElsewhere byte others → replicate count byte ++ bytes ≡ replicate other byte ++ others → (count ≡ other) × (bytes ≡ others)
same_copies byte zero zero bytes others starts ends e = (refl, e)
same_copies byte zero (suc other) bytes others starts ends e = absurd (subst (StartsElsewhere byte) e starts refl)
same_copies byte (suc count) zero bytes others starts ends e = absurd (subst (StartsElsewhere byte) (sym e) ends refl)
same_copies byte (suc count) (suc other) bytes others starts ends e =
    let rest : replicate count byte ++ bytes ≡ replicate other byte ++ others = cc in
    let same = same_copies byte count other bytes others starts ends rest in
    (ap suc same.0, same.1)

-- the first byte of runs is that of the first run
first_byte : (byte count other more : ℕ) (bytes others : List ℕ) → 0 < count → 0 < more → replicate count byte ++ bytes ≡ replicate more other ++ others → byte ≡ other
first_byte byte zero other more bytes others some any e = absurd (omega arith)
first_byte byte (suc count) other zero bytes others some any e = absurd (omega arith)
first_byte byte (suc count) other (suc more) bytes others some any e = cc

-- after a run the bytes go on with another byte
starts_elsewhere : (run : ℕ × ℕ) (runs : List (ℕ × ℕ)) → All IsPositive runs → NeighboursDiffer (run ∷ runs) → StartsElsewhere run.0 (bytes_of_runs runs)
starts_elsewhere run [] positive differ = tt
starts_elsewhere run (next ∷ runs) positive differ = begins run.0 next.0 next.1 (bytes_of_runs runs) (All-head IsPositive next runs positive) differ.0
  where
    begins : (byte other count : ℕ) (bytes : List ℕ) → 0 < count → byte ≢ other → StartsElsewhere byte (replicate count other ++ bytes)
    begins byte other zero bytes some apart = absurd (omega arith)
    begins byte other (suc count) bytes some apart = apart

NeighboursDiffer-tail : (run : ℕ × ℕ) (runs : List (ℕ × ℕ)) → NeighboursDiffer (run ∷ runs) → NeighboursDiffer runs
NeighboursDiffer-tail run [] differ = tt
NeighboursDiffer-tail run (next ∷ runs) differ = differ.1

no_bytes : (run : ℕ × ℕ) (runs : List (ℕ × ℕ)) → All IsPositive (run ∷ runs) → bytes_of_runs (run ∷ runs) ≡ [] → ⊥
no_bytes run runs positive e =
    let some = All-head IsPositive run runs positive in
    let none = ap length e in
    omega (arith, none, some, length-append (replicate run.1 run.0) (bytes_of_runs runs), length-replicate run.1 run.0)

same_runs : (runs others : List (ℕ × ℕ)) → All IsPositive runs → All IsPositive others → NeighboursDiffer runs → NeighboursDiffer others → bytes_of_runs runs ≡ bytes_of_runs others → runs ≡ others
same_runs [] [] positive some differ apart e = refl
same_runs [] (other ∷ others) positive some differ apart e = absurd (no_bytes other others some (sym e))
same_runs (run ∷ runs) [] positive some differ apart e = absurd (no_bytes run runs positive e)
same_runs (run ∷ runs) (other ∷ others) positive some differ apart e =
    let byte = first_byte run.0 run.1 other.0 other.1 (bytes_of_runs runs) (bytes_of_runs others) (All-head IsPositive run runs positive) (All-head IsPositive other others some) e in
    let same = same_copies run.0 run.1 other.1 (bytes_of_runs runs) (bytes_of_runs others)
    (starts_elsewhere run runs (All-tail IsPositive run runs positive) differ)
    (subst (λ b. StartsElsewhere b (bytes_of_runs others)) (sym byte) (starts_elsewhere other others (All-tail IsPositive other others some) apart))
    (e ∙ ap (λ b. replicate other.1 b ++ bytes_of_runs others) (sym byte)) in
    let rest = same_runs runs others (All-tail IsPositive run runs positive) (All-tail IsPositive other others some) (NeighboursDiffer-tail run runs differ) (NeighboursDiffer-tail other others apart) same.1 in
    let head : run ≡ other = pairs run other byte same.0 in
    cc
  where
    pairs : (a b : ℕ × ℕ) → a.0 ≡ b.0 → a.1 ≡ b.1 → a ≡ b
    pairs (x, y) (z, w) p q = cc

-- the same bytes have one list of maximal runs
pub same_from_IsRuns : (bytes : List ℕ) (runs others : List (ℕ × ℕ)) → IsRuns runs bytes → IsRuns others bytes → runs ≡ others
same_from_IsRuns bytes runs others first second =
    same_runs runs others first.not_empty second.not_empty first.maximal second.maximal (first.whole ∙ sym second.whole)

-- ---- a list of runs of which all except the last are taken away while it grows

All-front : (runs others : List (ℕ × ℕ)) → All IsPositive (runs ++ others) → All IsPositive runs
All-front [] others positive = All-nil IsPositive
All-front (run ∷ runs) others positive =
    All-cons IsPositive run runs (All-head IsPositive run (runs ++ others) positive) (All-front runs others (All-tail IsPositive run (runs ++ others) positive))

All-rest : (runs others : List (ℕ × ℕ)) → All IsPositive (runs ++ others) → All IsPositive others
All-rest [] others positive = positive
All-rest (run ∷ runs) others positive = All-rest runs others (All-tail IsPositive run (runs ++ others) positive)

NeighboursDiffer-rest : (runs others : List (ℕ × ℕ)) → NeighboursDiffer (runs ++ others) → NeighboursDiffer others
NeighboursDiffer-rest [] others differ = differ
NeighboursDiffer-rest (run ∷ []) [] differ = tt
NeighboursDiffer-rest (run ∷ []) (other ∷ others) differ = differ.1
NeighboursDiffer-rest (run ∷ next ∷ runs) others differ = NeighboursDiffer-rest (next ∷ runs) others differ.1

-- other runs that begin with the same byte may stand in their place
NeighboursDiffer-others : (taken : List (ℕ × ℕ)) (run other : ℕ × ℕ) (runs others : List (ℕ × ℕ)) → run.0 ≡ other.0 → NeighboursDiffer (taken ++ run ∷ runs) → NeighboursDiffer (other ∷ others) → NeighboursDiffer (taken ++ other ∷ others)
NeighboursDiffer-others [] run other runs others same differ apart = apart
NeighboursDiffer-others (first ∷ []) run other runs others same differ apart = (λ e. differ.0 (e ∙ sym same), apart)
NeighboursDiffer-others (first ∷ next ∷ taken) run other runs others same differ apart = (differ.0, NeighboursDiffer-others (next ∷ taken) run other runs others same differ.1 apart)

-- the runs that are left are maximal
pub left_runs : (taken left : List (ℕ × ℕ)) (bytes : List ℕ) → IsRuns (taken ++ left) bytes → IsRuns left (bytes_of_runs left)
left_runs taken left bytes is = record {
  whole = refl;
  not_empty = All-rest taken left is.not_empty;
  maximal = NeighboursDiffer-rest taken left is.maximal;
}

-- and no longer than the bytes
pub left_runs-le : (taken left : List (ℕ × ℕ)) (bytes : List ℕ) → IsRuns (taken ++ left) bytes → length (bytes_of_runs left) ≤ length bytes
left_runs-le taken left bytes is =
    let e = ap length (sym (bytes_of_runs-append taken left) ∙ is.whole) in
    omega (arith, e, length-append (bytes_of_runs taken) (bytes_of_runs left))

no_bytes_of : (run : ℕ × ℕ) (bytes : List ℕ) → IsPositive run → [] ≡ replicate run.1 run.0 ++ bytes → ⊥
no_bytes_of run bytes some e =
    let none = ap length e in
    omega (arith, none, some, length-append (replicate run.1 run.0) bytes, length-replicate run.1 run.0)

-- the bytes go on, and what is left becomes the runs of its own bytes and those
pub more_runs : (taken left grown : List (ℕ × ℕ)) (bytes more : List ℕ) → (length left ≡ 0 → length taken ≡ 0) → IsRuns (taken ++ left) bytes → IsRuns grown (bytes_of_runs left ++ more) → IsRuns (taken ++ grown) (bytes ++ more)
more_runs [] [] grown bytes more some is next = subst (λ b. IsRuns grown (b ++ more)) is.whole next
more_runs (run ∷ taken) [] grown bytes more some is next = absurd (let none = some refl in omega (arith, none))
more_runs taken (run ∷ left) [] bytes more some is next =
    absurd (no_bytes_of run (bytes_of_runs left ++ more) (All-head IsPositive run left (All-rest taken (run ∷ left) is.not_empty)) (next.whole ∙ append_assoc (replicate run.1 run.0) (bytes_of_runs left) more))
more_runs taken (run ∷ left) (first ∷ grown) bytes more some is next =
    let positive = All-head IsPositive run left (All-rest taken (run ∷ left) is.not_empty) in
    let same = first_byte run.0 run.1 first.0 first.1 (bytes_of_runs left ++ more) (bytes_of_runs grown) positive (All-head IsPositive first grown next.not_empty)
    (sym (append_assoc (replicate run.1 run.0) (bytes_of_runs left) more) ∙ sym next.whole) in
    record {
      whole = bytes_of_runs-append taken (first ∷ grown)
          ∙ ap (λ b. bytes_of_runs taken ++ b) next.whole
          ∙ sym (append_assoc (bytes_of_runs taken) (bytes_of_runs (run ∷ left)) more)
          ∙ ap (λ b. b ++ more) (sym (bytes_of_runs-append taken (run ∷ left)) ∙ is.whole);
      not_empty = All-append IsPositive taken (first ∷ grown) (All-front taken (run ∷ left) is.not_empty) next.not_empty;
      maximal = NeighboursDiffer-others taken run first left grown same is.maximal next.maximal;
    }

-- if bytes came there are runs
pub some_runs : (runs : List (ℕ × ℕ)) (bytes more : List ℕ) → 0 < length more → IsRuns runs (bytes ++ more) → length runs ≡ 0 → ⊥
some_runs [] bytes more some is none = let e = ap length is.whole in omega (arith, e, some, length-append bytes more)
some_runs (run ∷ runs) bytes more some is none = omega (arith, none)
