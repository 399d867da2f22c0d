-- What the sum law says of the shared value, in plain numbers.
use Rattle.std.proofs.Common.{◌≡◌, ℕ, suc, ◌+◌, ◌*◌, ◌^◌, ◌<◌, ◌≤◌, Bool, true, false, List, [], ◌∷◌, length, Some, refl, arith, ◌∙◌, subst}
use Rattle.std.specs.Prelude.{ℤ, pos, ◌+ℤ◌, ◌-ℤ◌, ◌≤ℤ◌, neg_ℤ, slice_get}
use Rattle.std.proofs.lemmas.Int.{ints}
use Rattle.percpu_core.specs.declared.phase.Phase.{Phase}
use Rattle.percpu_core.specs.declared.phase.Phase.TheVariants.{LiveSlots, LiveAtomic, Closing, Collected, Confirmed, Dead, Reviving, Fronted, Opening}
use Rattle.percpu_core.specs.declared.pass_standing.Pending.{Pending}
use Rattle.percpu_core.specs.declared.pass_standing.Pending.TheVariants.{Nothing, OneToUndo, ZeroToMark}
use Rattle.percpu_core.specs.declared.view.ControlView.{ControlView}
use Rattle.percpu_core.specs.declared.view.View.{View}
use Rattle.percpu_core.specs.declared.view.View.TheVariants.{OfControl, OfPass, Spent}
use Rattle.percpu_words.specs.SlotWord.{most_delta, IsDelta}
use Rattle.percpu_core.specs.declared.slot.Slot.{Slot}
use Rattle.percpu_core.specs.declared.slot.Slot.TheVariants.{Closed, Open}
use Rattle.percpu_core.specs.Cells.{Cells, is_open, delta, open_deltas}
use Rattle.percpu_core.specs.Phases.{holds_base, has_bias, closed_so_far, is_open_in}
use Rattle.percpu_core.specs.Views.{count, to_undo, EachPass, held_by_all, additions_to_undo, passes_left}
use Rattle.percpu_core.specs.ReleaseLaw.{Origin}
use Rattle.percpu_core.specs.LimitLaw.{AreSmall}
use Rattle.percpu_core.specs.Laws.{Laws}
use Rattle.percpu_core.proofs.Passes.{over_passes-most}

-- both sides of the sum law change alike
pub balance : (v v' n n' k : ℕ) (a b : ℤ) → pos v +ℤ a +ℤ b -ℤ pos k ≡ pos n → v' + n ≡ v + n' → pos v' +ℤ a +ℤ b -ℤ pos k ≡ pos n'
balance v v' n n' k a b e h = omega (arith, ints)

-- both sides, if slots change too
pub balance_slots : (v v' n n' k x y : ℕ) (a a' b : ℤ) → pos v +ℤ a +ℤ b -ℤ pos k ≡ pos n → pos v' +ℤ a' +ℤ pos x ≡ pos v +ℤ a +ℤ pos y → n' + x ≡ n + y → pos v' +ℤ a' +ℤ b -ℤ pos k ≡ pos n'
balance_slots v v' n n' k x y a a' b e f h = omega (arith, ints)

bounded : (v n k : ℕ) (a b : ℤ) → pos v +ℤ a +ℤ b -ℤ pos k ≡ pos n → a ≤ℤ pos 536870912 → neg_ℤ (pos 536870912) ≤ℤ a → b ≤ℤ pos 536870912 → neg_ℤ (pos 536870912) ≤ℤ b → v ≤ n + k + 1073741824
bounded v n k a b e p q r s = omega (arith, ints)

biased : (v n : ℕ) (a b : ℤ) → pos v +ℤ a +ℤ b -ℤ pos 281474976710656 ≡ pos n → a ≤ℤ pos 536870912 → b ≤ℤ pos 536870912 → n + 1 ≤ v
biased v n a b e p r = omega (arith, ints)

unbiased : (v n : ℕ) (a b : ℤ) → pos v +ℤ a +ℤ b -ℤ pos 0 ≡ pos n → a ≡ pos 0 → b ≤ℤ pos 0 → neg_ℤ (pos 0) ≤ℤ b → v ≡ n
unbiased v n a b e p q r = omega (arith, ints)

wider : (b : ℤ) (m n : ℕ) → m ≤ n → b ≤ℤ pos m → b ≤ℤ pos n
wider b m n h e = omega (arith, ints)

lower : (b : ℤ) (m n : ℕ) → m ≤ n → neg_ℤ (pos m) ≤ℤ b → neg_ℤ (pos n) ≤ℤ b
lower b m n h e = omega (arith, ints)

add_most : (d a : ℤ) (m n : ℕ) → d ≤ℤ pos m → a ≤ℤ pos n → (d +ℤ a) ≤ℤ pos (m + n)
add_most d a m n p q = omega (arith, ints)

add_least : (d a : ℤ) (m n : ℕ) → neg_ℤ (pos m) ≤ℤ d → neg_ℤ (pos n) ≤ℤ a → neg_ℤ (pos (m + n)) ≤ℤ (d +ℤ a)
add_least d a m n p q = omega (arith, ints)

delta_most : (d : ℤ) → IsDelta d → d ≤ℤ pos most_delta
delta_most d h = omega (arith, ints)

delta_least : (d : ℤ) → IsDelta d → neg_ℤ (pos most_delta) ≤ℤ d
delta_least d h = omega (arith, ints)

deltas_most : (ss : List Slot) → AreSmall ss → open_deltas ss ≤ℤ pos (most_delta * length ss)
deltas_most [] h = omega (arith, ints)
deltas_most (s ∷ ss) h = wider _ _ _ (omega arith) (add_most (delta s) (open_deltas ss) _ _ (delta_most (delta s) h.0) (deltas_most ss h.1))

deltas_least : (ss : List Slot) → AreSmall ss → neg_ℤ (pos (most_delta * length ss)) ≤ℤ open_deltas ss
deltas_least [] h = omega (arith, ints)
deltas_least (s ∷ ss) h = lower _ (most_delta + most_delta * length ss) _ (omega arith) (add_least (delta s) (open_deltas ss) most_delta (most_delta * length ss) (delta_least (delta s) h.0) (deltas_least ss h.1))

pub closed_delta : (s : Slot) → is_open s ≡ false → delta s ≡ pos 0
closed_delta Closed h = refl
closed_delta (Open d) h = cc

pub open_deltas-closed : (ss : List Slot) → ((k : ℕ) (s : Slot) → slice_get ss k ≡ Some s → is_open s ≡ false) → open_deltas ss ≡ pos 0
open_deltas-closed [] h = refl
open_deltas-closed (s ∷ ss) h = let d = closed_delta s (h 0 s refl) in let r = open_deltas-closed ss (λ k t e. h (suc k) t e) in omega (arith, ints)

no_bias : (phase : Phase) → has_bias phase ≡ false → (closed_so_far phase ≡ 0) × ((k : ℕ) → is_open_in phase k ≡ false)
no_bias LiveSlots h = cc
no_bias (Closing i) h = cc
no_bias (Opening i) h = cc
no_bias LiveAtomic h = (refl, λ k. refl)
no_bias Collected h = (refl, λ k. refl)
no_bias Confirmed h = (refl, λ k. refl)
no_bias Dead h = (refl, λ k. refl)
no_bias Reviving h = (refl, λ k. refl)
no_bias Fronted h = (refl, λ k. refl)

to_undo-most : (p : Pending) → to_undo p ≤ 1
to_undo-most Nothing = omega arith
to_undo-most OneToUndo = omega arith
to_undo-most ZeroToMark = omega arith

pub count-most : (b : Bool) → count b ≤ 1
count-most true = omega arith
count-most false = omega arith

each_most : (vs : List View) → EachPass (λ p. p.standing.held ≤ 65535) vs → EachPass (λ p. to_undo p.standing.pending ≤ 1) vs
each_most [] e = tt
each_most (OfPass p ∷ vs) e = (to_undo-most p.standing.pending, each_most vs e.1)
each_most (OfControl c ∷ vs) e = absurd e.0
each_most (Spent ∷ vs) e = (tt, each_most vs e.1)

module _ (o : Origin) (cells : Cells) (c : ControlView) (vs : List View) (l : Laws o cells c vs) where
  abbrev counted : ℕ
  counted = count (holds_base c.standing.phase) + held_by_all vs + additions_to_undo vs

  few : counted ≤ 1 + 65535 * 1024 + 1024
  few = let held = over_passes-most (λ p. p.standing.held) 65535 vs l.limit.held in
      let undo = over_passes-most (λ p. to_undo p.standing.pending) 1 vs (each_most vs l.limit.held) in
      let base = count-most (holds_base c.standing.phase) in let size : passes_left vs ≤ 1024 = subst (λ (n : ℕ). n ≤ 1024) l.release.passes l.limit.passes in omega arith

  slots_few : most_delta * length cells.slots ≤ 536870912
  slots_few = let h : length cells.slots ≤ 512 = l.limit.slots in omega arith

  closed_few : most_delta * closed_so_far c.standing.phase ≤ 536870912
  closed_few = let h : length cells.slots ≤ 512 = l.limit.slots in let g : closed_so_far c.standing.phase ≤ length cells.slots = l.phase.closed in omega arith

  -- if no bias is in force the shared value is all there is
  pub value-unbiased : has_bias c.standing.phase ≡ false → cells.shared.value ≡ counted
  value-unbiased h = let n = no_bias c.standing.phase h in
      let deltas = open_deltas-closed cells.slots (λ k s e. l.phase.slots k s e ∙ n.1 k) in
      unbiased _ _ _ _ (rw h at l.sum) deltas (rw n.0 at l.limit.uncollected_most) (rw n.0 at l.limit.uncollected_least)

  value_by : (b : Bool) → has_bias c.standing.phase ≡ b → counted ≤ cells.shared.value
  value_by true h = let more = biased _ _ _ _ (rw h at l.sum) (wider _ _ _ slots_few (deltas_most cells.slots l.limit.deltas)) (wider _ _ _ closed_few l.limit.uncollected_most) in omega arith
  value_by false h = let same = value-unbiased h in omega arith

  -- every reference that is counted is in the shared value
  pub value-least : counted ≤ cells.shared.value
  value-least = value_by (has_bias c.standing.phase) refl

  -- the shared value stays small
  pub value-most : cells.shared.value < 2 ^ 49
  value-most = let most = bounded _ _ _ _ _ l.sum (wider _ _ _ slots_few (deltas_most cells.slots l.limit.deltas)) (lower _ (most_delta * length cells.slots) _ slots_few (deltas_least cells.slots l.limit.deltas))
      (wider _ _ _ closed_few l.limit.uncollected_most) (lower _ (most_delta * closed_so_far c.standing.phase) _ closed_few l.limit.uncollected_least) in
      let b = count-most (has_bias c.standing.phase) in let n = few in omega arith
