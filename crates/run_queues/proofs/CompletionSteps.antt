-- Each step of the queue keeps the rule of the completions.
use Rattle.std.proofs.Common.{◌≡◌, ℕ, zero, suc, ◌+◌, ◌<◌, true, [], ◌∷◌, ◌++◌, map, set, sym, refl, ap, ◌∙◌, arith, zero-le, ⊎_elim, subst}
use Rattle.std.proofs.lemmas.List.{map-append}
use mathlib.Core.Option.{some, some-injective, some-ne-none}
use lib.ListN.{get_elem?}
use Rattle.crossbeam_queue.specs.Fifo.{Pushes, Pops, Forks}
use Rattle.crossbeam_queue.proofs.Lists.{at_snoc}
use Rattle.run_queues.specs.declared.completions.Turn.{Turn}
use Rattle.run_queues.specs.Numbers.{times, one_at}
use Rattle.run_queues.specs.Completions.{first_turn, turn_of, no_turn, IsToldOnce, after_turn, after_collect}
use Rattle.run_queues.proofs.Totals.{total_set, total_snoc, at_most_total, each_set}
use Rattle.run_queues.proofs.Increasing.{one_at_itself, one_below_more, one_below_none, below_of_one, one_below_at_most, times_append}
use Rattle.run_queues.proofs.RequestSteps.{no_bit}

-- the one pass that collects
abbrev Collects : ℕ → ℕ → ℕ → Turn → Type 0
Collects collector given port v = v.collects ≡ true → (port ≡ collector) × (v.given ≡ given)

-- the first pass collects
pub begins : (T : Type 0) (number : T → ℕ) → IsToldOnce {T = T} number [] (first_turn ∷ [])
begins T number = (0, 0, (λ x. sym (one_below_none 0 x zero-le)), first)
  where
    first : (port : ℕ) (v : Turn) → get_elem? (first_turn ∷ []) port ≡ some v → Collects 0 0 port v
    first zero v e = subst (Collects 0 0 0) (some-injective _ v e) (λ _. (refl, refl))
    first (suc port) v e = absurd (some-ne-none v (sym e))

pub tells : {T : Type 0} (number : T → ℕ) (n port : ℕ) (v : Turn) (completion : T) → v ≡ turn_of (number completion) → Pushes (IsToldOnce number) n port v completion (λ w. w ≡ no_turn)
tells number n port v completion is items views room b at = (
  no_turn,
  (
    b.0,
    b.1,
    (λ x.
        let may = total_set (λ u. times x u.may_tell) views port v no_turn at in
        let done = total_set (λ u. times x u.collected) views port v no_turn at in
        let mine : times x v.may_tell ≡ one_at x (number completion) + 0 = ap (λ u. times x u.may_tell) is in
        let none : times x v.collected ≡ 0 = ap (λ u. times x u.collected) is in
        let more : times x (map number (items ++ completion ∷ [])) ≡ times x (map number items) + (one_at x (number completion) + 0) = ap (times x) (map-append number items (completion ∷ [])) ∙ times_append x (map number items) (number completion ∷ []) in
        let p = b.2 x in
        omega arith),
    each_set (Collects b.0 b.1) (Collects b.0 b.1) views port no_turn b.3 (λ c. no_bit c) (λ j u other old. old),
  ),
  refl,
)

pub collects : {T : Type 0} (number : T → ℕ) (port : ℕ) (v : Turn) → v.collects ≡ true
    → Pops (IsToldOnce {T = T} number) port v (λ completion w. (w ≡ after_collect (number completion) v) × (number completion < v.given) × (times (number completion) v.collected ≡ 0))
collects number port v may completion items views b at =
    let n = number completion in
    let w = after_collect (number completion) v in
    let own = b.3 port v at may in
    let here = one_at_itself n in
    let all = b.2 n in
    let most = one_below_at_most b.1 n in
    let mine = at_most_total (λ u. times n u.collected) views port v at in (
      w,
      (
        b.0,
        b.1,
        (λ x.
            let may_tell = total_set (λ u. times x u.may_tell) views port v w at in
            let done = total_set (λ u. times x u.collected) views port v w at in
            let more = times_append x v.collected (n ∷ []) in
            let p = b.2 x in
            omega arith),
        each_set (Collects b.0 b.1) (Collects b.0 b.1) views port w b.3 (λ c. own) (λ j u other old. old),
      ),
      (refl, subst (λ k. n < k) (sym own.1) (below_of_one b.1 n (omega arith)), omega arith),
    )

-- a turn is given
pub gives : {T : Type 0} (number : T → ℕ) (port : ℕ) (v : Turn) → v.collects ≡ true → Forks (IsToldOnce {T = T} number) port v (after_turn v) (turn_of v.given)
gives number port v may items views b at =
    let w = after_turn v in
    let vs = set views port w in
    let own = b.3 port v at may in
    let old = each_set (Collects b.0 b.1) (Collects b.0 (b.1 + 1)) views port w b.3 (λ c. (own.0, let p = own.1 in omega arith)) (λ j u other old c. absurd (other ((old c).0 ∙ sym own.0))) in (
      b.0,
      b.1 + 1,
      (λ x.
          let may_tell = total_set (λ u. times x u.may_tell) views port v w at in
          let done = total_set (λ u. times x u.collected) views port v w at in
          let more = total_snoc (λ u. times x u.may_tell) vs (turn_of v.given) in
          let same = total_snoc (λ u. times x u.collected) vs (turn_of v.given) in
          let next = one_below_more b.1 x in
          let which = ap (one_at x) own.1 in
          let p = b.2 x in
          omega arith),
      (λ j u e. ⊎_elim (λ x. old j u x) (λ (is : turn_of v.given ≡ u). subst (Collects b.0 (b.1 + 1) j) is (λ c. no_bit c)) (at_snoc vs (turn_of v.given) u j e)),
    )
