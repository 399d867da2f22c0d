-- The first overlap of a script, and scripts without one.
use Rattle.std.proofs.Common.{◌≡◌, ◌∙◌, refl, sym, ap, subst, ℕ, ◌<◌, inl, inr, arith, [], Option, Some, None, IsSome, Contains, false}
use Rattle.std.proofs.lemmas.Bool.{cases_lt}
use Rattle.script_meaning.specs.Requests.{accepted_at, number_at}
use Rattle.script_overlap.specs.Overlap.{Clash, IsOverlap, IsReported, IsFirstOverlap}
use Rattle.script_meaning.specs.Script.{Meant, orders}
use Rattle.script_overlap.specs.Ordered.{MustWait}
use Rattle.script_overlap.specs.Partners.{Finds, IsPartner, IsEarliest}
use Rattle.line_text.specs.declared.fault.Overlap.{Overlap}
use Rattle.script_meaning.specs.declared.reply.Request.{Request}
use Rattle.script_overlap.proofs.PartnerLemmas.{same_accepted, span_with, span_before}

-- where a request has to wait, an earlier line is found
pub wait_is_found : (script : Meant) (i : ℕ) (request : Request) (found : Option ℕ) → accepted_at script i ≡ Some request → MustWait script [] i → Finds script i request found → IsSome found
wait_is_found script i request (Some number) accepted waits finds = refl
wait_is_found script i request None accepted waits finds =
    let P : Request → Type 0 = λ r. Clash waits.first r in
    absurd (finds waits.earlier (record {
      other = waits.first;
      other_accepted = waits.first_accepted;
      in_order = waits.in_order;
      one_span = λ between low high. (waits.joins between low high).0;
      clash = subst P (same_accepted script i waits.second request waits.second_accepted accepted) waits.clash;
    }))

overlap_of_partner : (script : Meant) (i : ℕ) (request : Request) (e : ℕ) → orders script.version ≡ false → accepted_at script i ≡ Some request → IsPartner script i request e → IsOverlap script e i
overlap_of_partner script i request e one accepted p = record {
  refuses = one;
  first = p.other;
  second = request;
  first_accepted = p.other_accepted;
  second_accepted = accepted;
  in_order = p.in_order;
  one_span = span_with script e i request accepted p.one_span;
  clash = p.clash;
}

partner_of_overlap : (script : Meant) (i : ℕ) (request : Request) (e : ℕ) → accepted_at script i ≡ Some request → IsOverlap script e i → IsPartner script i request e
partner_of_overlap script i request e accepted o =
    let P : Request → Type 0 = λ r. Clash o.first r in
    record {
      other = o.first;
      other_accepted = o.first_accepted;
      in_order = o.in_order;
      one_span = span_before script e i o.one_span;
      clash = subst P (same_accepted script i o.second request o.second_accepted accepted) o.clash;
    }

-- the first line that clashes with the first that overlaps one
pub reported : (script : Meant) (i : ℕ) (request : Request) (pair : Overlap) → orders script.version ≡ false → accepted_at script i ≡ Some request → number_at script i ≡ Some pair.line
    → ((e l : ℕ) → l < i → IsOverlap script e l → ⊥) → IsEarliest script i request pair.earlier → IsReported script pair
reported script i request pair one accepted line apart first = record {
  earlier = first.earlier;
  later = i;
  is_first = record {
    overlap = overlap_of_partner script i request first.earlier one accepted first.partner;
    least_later = λ e l o. elim (cases_lt l i) [ inl less ↦ absurd (apart e l less o) | inr more ↦ more ];
    least_earlier = λ e o. first.least e (partner_of_overlap script i request e accepted o);
  };
  earlier_line = first.line;
  later_line = line;
}

-- an empty list has no position
pub none_ordered : (p : ℕ) → Contains [] p → ⊥
none_ordered p there = omega (arith, there.1)

-- none with a line that has to wait for none
pub apart_here : (script : Meant) (i : ℕ) → (MustWait script [] i → ⊥) → (e : ℕ) → IsOverlap script e i → ⊥
apart_here script i joins e o = joins (record {
  earlier = e;
  first = o.first;
  second = o.second;
  first_accepted = o.first_accepted;
  second_accepted = o.second_accepted;
  in_order = o.in_order;
  joins = λ between low high. (o.one_span between low (omega arith), none_ordered between);
  clash = o.clash;
})

-- ---- one first overlap

pub one_place : (script : Meant) (e l f m : ℕ) → IsFirstOverlap script e l → IsFirstOverlap script f m → (e ≡ f) × (l ≡ m)
one_place script e l f m a b =
    let later : l ≡ m = omega (arith, a.least_later f m b.overlap, b.least_later e l a.overlap) in
    let of_a : IsOverlap script f l = let P : ℕ → Type 0 = λ n. IsOverlap script f n in subst P (sym later) b.overlap in
    let of_b : IsOverlap script e m = let P : ℕ → Type 0 = λ n. IsOverlap script e n in subst P later a.overlap in
    (omega (arith, a.least_earlier f of_a, b.least_earlier e of_b), later)

some_one : (a b : ℕ) → Some a ≡ Some b → a ≡ b
some_one a b e = cc

pub one_pair : (script : Meant) (a b : Overlap) → IsReported script a → IsReported script b → a ≡ b
one_pair script a b x y =
    let same = one_place script x.earlier x.later y.earlier y.later x.is_first y.is_first in
    let line : a.line ≡ b.line = some_one a.line b.line (sym x.later_line ∙ ap (number_at script) same.1 ∙ y.later_line) in
    let earlier : a.earlier ≡ b.earlier = some_one a.earlier b.earlier (sym x.earlier_line ∙ ap (number_at script) same.0 ∙ y.earlier_line) in
    let of : ℕ → ℕ → Overlap = λ l e. record { line = l; earlier = e } in
    ap (λ (l : ℕ). of l a.earlier) line ∙ ap (λ (e : ℕ). of b.line e) earlier
