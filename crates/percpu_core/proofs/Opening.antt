-- The laws hold at each start.
use Rattle.std.proofs.Common.{◌≡◌, ℕ, zero, suc, ◌+◌, ◌*◌, ◌^◌, ◌≤◌, Bool, false, List, ◌∷◌, map, replicate, Option, Some, None, refl, arith, ap, sym}
use Rattle.std.specs.Prelude.{ℤ, pos, ◌+ℤ◌, ◌-ℤ◌, slice_get}
use Rattle.std.proofs.Math.ListN.{length-replicate}
use Rattle.std.proofs.lemmas.Int.{ints}
use Rattle.percpu_core.specs.declared.start.Start.{Start}
use Rattle.percpu_core.specs.declared.start.Start.TheVariants.{Slots, Atomic, Dead}
use Rattle.percpu_core.specs.declared.pass_standing.PassStanding.{PassStanding}
use Rattle.percpu_core.specs.declared.view.PassView.{PassView}
use Rattle.percpu_core.specs.declared.view.View.TheVariants.{OfPass}
use Rattle.percpu_words.specs.SlotWord.{IsDelta}
use Rattle.percpu_core.specs.declared.slot.Slot.{Slot}
use Rattle.percpu_core.specs.declared.slot.Slot.TheVariants.{Closed, Open}
use Rattle.percpu_core.specs.Cells.{is_open, delta, open_deltas}
use Rattle.percpu_core.specs.Views.{to_undo, over_passes, EachPass}
use Rattle.percpu_core.specs.LimitLaw.{AreSmall}
use Rattle.percpu_core.specs.Laws.{Laws}
use Rattle.percpu_core.specs.Starts.{Opening, IsWithinLimits, idle, first_state}
use Rattle.percpu_core.specs.SeatLaws.{OpeningIsLawful}
use Rattle.percpu_core.proofs.Flags.{never}
use Rattle.percpu_core.specs.Snapshots.{standing_of, kept, IsLawful, first_pass, first_snapshot, origin_of}

abbrev opened_in : Option Slot → Bool
opened_in None = false
opened_in (Some t) = is_open t

-- this many slots, all equal to this one
all_slots : (n k : ℕ) (t s : Slot) → slice_get (replicate n t) k ≡ Some s → is_open s ≡ is_open t
all_slots zero k t s e = cc
all_slots (suc n) zero t s e = sym (ap opened_in e)
all_slots (suc n) (suc k) t s e = all_slots n k t s e

small : (n : ℕ) (t : Slot) → IsDelta (delta t) → AreSmall (replicate n t)
small zero t h = tt
small (suc n) t h = (h, small n t h)

no_delta : (n : ℕ) (t : Slot) → delta t ≡ pos 0 → open_deltas (replicate n t) ≡ pos 0
no_delta zero t h = refl
no_delta (suc n) t h = let r = no_delta n t h in omega (arith, ints)

each_first : (P : PassView → Type 0) → P first_pass → (n : ℕ) → EachPass P (replicate n (OfPass first_pass))
each_first P h zero = tt
each_first P h (suc n) = (h, each_first P h n)

over_first : (f : PassView → ℕ) (n : ℕ) → over_passes f (replicate n (OfPass first_pass)) ≡ n * f first_pass
over_first f zero = omega arith
over_first f (suc n) = let r = over_first f n in omega arith

biased_is : (v n : ℕ) (a : ℤ) → a ≡ pos 0 → v ≡ n + 281474976710656 → pos v +ℤ a +ℤ pos 0 -ℤ pos 281474976710656 ≡ pos n
biased_is v n a e h = omega (arith, ints)

sum_is : (v n : ℕ) (a : ℤ) → a ≡ pos 0 → v ≡ n → pos v +ℤ a +ℤ pos 0 -ℤ pos 0 ≡ pos n
sum_is v n a e h = omega (arith, ints)

module _ (o : Opening) (few_passes : o.passes ≤ 1024) (some_slot : 1 ≤ o.slots) (few_slots : o.slots ≤ 512) (few_kills : o.kills ≤ 2 ^ 40) where
  nobody : (n : ℕ) → n ≡ n + over_passes (λ p. p.standing.held) (replicate o.passes (OfPass first_pass)) + over_passes (λ p. to_undo p.standing.pending) (replicate o.passes (OfPass first_pass))
  nobody n = let none = over_first (λ p. p.standing.held) o.passes in let nothing = over_first (λ p. to_undo p.standing.pending) o.passes in omega arith

  unheld : over_passes (λ p. p.standing.held) (replicate o.passes (OfPass first_pass)) ≡ 0
  unheld = let none = over_first (λ p. p.standing.held) o.passes in omega arith

  abbrev started : Start → Opening
  started s = record o { start = s }

  abbrev Lawful : Start → Type 0
  Lawful s = Laws (origin_of (started s)) (first_snapshot (started s)).cells (first_snapshot (started s)).control (first_snapshot (started s)).others

  first : (s : Start) → Lawful s
  first Slots = record {
    sum = biased_is _ _ _ (no_delta o.slots (Open (pos 0)) refl) (let n = nobody 1 in omega arith);
    phase = record { slots = λ k. all_slots o.slots k (Open (pos 0)); closed = omega arith; opening = λ k e. cc; dead = refl; killing = refl };
    zero = record { after_drop = never; nothing_held = never; known = never; settled = never };
    mark = never;
    guard = record { passes = each_first _ (λ h. tt) o.passes; known = refl };
    front = record { parity = omega arith; known = refl; floors = each_first _ (omega arith, omega arith) o.passes };
    release = record {
      releases = let none = over_first (λ p. p.releases) o.passes in omega arith;
      zeros = omega arith;
      kills = omega arith;
      passes = let all = over_first (λ p. 1) o.passes in omega arith;
      found_dead = each_first _ never o.passes;
      found_zero = each_first _ never o.passes;
      control_found_dead = never;
      control_found_zero = never;
    };
    limit = record {
      passes = few_passes;
      held = each_first _ (omega arith) o.passes;
      some_slot = let e = length-replicate o.slots (Open (pos 0)) in let h = some_slot in omega arith;
      slots = let e = length-replicate o.slots (Open (pos 0)) in let h = few_slots in omega arith;
      deltas = small o.slots (Open (pos 0)) (omega arith);
      uncollected_most = omega (arith, ints);
      uncollected_least = omega (arith, ints);
      kills = few_kills;
      front = omega arith;
    };
  }
  first Atomic = record {
    sum = sum_is _ _ _ (no_delta o.slots Closed refl) (nobody 1);
    phase = record { slots = λ k. all_slots o.slots k Closed; closed = omega arith; opening = λ k e. cc; dead = refl; killing = refl };
    zero = record { after_drop = never; nothing_held = never; known = never; settled = never };
    mark = never;
    guard = record { passes = each_first _ (λ h. tt) o.passes; known = refl };
    front = record { parity = omega arith; known = refl; floors = each_first _ (omega arith, omega arith) o.passes };
    release = record {
      releases = let none = over_first (λ p. p.releases) o.passes in omega arith;
      zeros = omega arith;
      kills = omega arith;
      passes = let all = over_first (λ p. 1) o.passes in omega arith;
      found_dead = each_first _ never o.passes;
      found_zero = each_first _ never o.passes;
      control_found_dead = never;
      control_found_zero = never;
    };
    limit = record {
      passes = few_passes;
      held = each_first _ (omega arith) o.passes;
      some_slot = let e = length-replicate o.slots Closed in let h = some_slot in omega arith;
      slots = let e = length-replicate o.slots Closed in let h = few_slots in omega arith;
      deltas = small o.slots Closed (omega arith);
      uncollected_most = omega (arith, ints);
      uncollected_least = omega (arith, ints);
      kills = few_kills;
      front = omega arith;
    };
  }
  first Dead = record {
    sum = sum_is _ _ _ (no_delta o.slots Closed refl) (nobody 0);
    phase = record { slots = λ k. all_slots o.slots k Closed; closed = omega arith; opening = λ k e. cc; dead = refl; killing = refl };
    zero = record { after_drop = λ z. refl; nothing_held = λ z. unheld; known = λ z. refl; settled = never };
    mark = never;
    guard = record { passes = each_first _ (λ h. tt) o.passes; known = refl };
    front = record { parity = omega arith; known = refl; floors = each_first _ (omega arith, omega arith) o.passes };
    release = record {
      releases = let none = over_first (λ p. p.releases) o.passes in omega arith;
      zeros = omega arith;
      kills = omega arith;
      passes = let all = over_first (λ p. 1) o.passes in omega arith;
      found_dead = each_first _ never o.passes;
      found_zero = each_first _ never o.passes;
      control_found_dead = never;
      control_found_zero = never;
    };
    limit = record {
      passes = few_passes;
      held = each_first _ (omega arith) o.passes;
      some_slot = let e = length-replicate o.slots Closed in let h = some_slot in omega arith;
      slots = let e = length-replicate o.slots Closed in let h = few_slots in omega arith;
      deltas = small o.slots Closed (omega arith);
      uncollected_most = omega (arith, ints);
      uncollected_least = omega (arith, ints);
      kills = few_kills;
      front = omega arith;
    };
  }

pub first_lawful : (o : Opening) → IsWithinLimits o → Laws (origin_of o) (first_snapshot o).cells (first_snapshot o).control (first_snapshot o).others
first_lawful o w = first o w.passes w.some_slot w.slots w.kills o.start

standings : (n : ℕ) → map standing_of (replicate n (OfPass first_pass)) ≡ replicate n (Some idle)
standings zero = refl
standings (suc n) = ap (λ (qs : List (Option PassStanding)). Some idle ∷ qs) (standings n)

-- a world keeps this of the first snapshot
pub first_kept : (o : Opening) → kept (first_snapshot o) ≡ first_state o
first_kept o = λ j. record (first_state o) { passes = standings o.passes j; releases = none j }
  where
    none : 0 + over_passes (λ p. p.releases) (replicate o.passes (OfPass first_pass)) ≡ 0
    none = let all = over_first (λ p. p.releases) o.passes in omega arith

pub first_is_lawful : (o : Opening) → IsWithinLimits o → IsLawful (first_state o)
first_is_lawful o w = (origin_of o, first_snapshot o, first_kept o, first_lawful o w)

-- before any pass is split off
pub alone_lawful : OpeningIsLawful
alone_lawful o w = first (record o { passes = 0 }) (omega arith) w.some_slot w.slots w.kills o.start
