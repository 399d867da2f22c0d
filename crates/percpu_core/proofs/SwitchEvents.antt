-- Each event of the control on the slots keeps the laws: closing one, collecting what was closed, adding the bias, opening one.
use Rattle.std.proofs.Common.{◌≡◌, ℕ, ◌+◌, ◌-◌, ◌*◌, ◌<◌, ◌≤◌, Bool, true, false, not, ◌==◌, if◌then◌else◌, List, length, set, nat_lt, nat_le, refl, arith, ap, sym, ◌∙◌, subst}
use Rattle.std.specs.Prelude.{ℤ, pos, negsuc, ◌+ℤ◌, ◌-ℤ◌, neg_ℤ, ◌≤ℤ◌}
use Rattle.std.proofs.Math.ListN.{length-set}
use Rattle.std.proofs.lemmas.Int.{ints}
use Rattle.std.proofs.lemmas.Bool.Decides.{nat_tests}
use Rattle.percpu_words.specs.SharedWord.{bias}
use Rattle.percpu_words.specs.SlotWord.{most_delta, IsDelta}
use Rattle.percpu_core.specs.declared.slot.Slot.TheVariants.{Closed, Open}
use Rattle.percpu_core.specs.declared.control_event.ControlEvent.TheVariants.{Close, Collect, AddBias, OpenNext}
use Rattle.percpu_core.specs.declared.phase.Phase.{Phase}
use Rattle.percpu_core.specs.declared.phase.Phase.TheVariants.{LiveSlots, LiveAtomic, Closing, Collected, Confirmed, Dead, Reviving, Fronted, Opening}
use Rattle.percpu_core.specs.declared.view.ControlView.{ControlView}
use Rattle.percpu_core.specs.declared.view.View.{View}
use Rattle.percpu_core.specs.Cells.{Cells, delta, open_deltas, slot_at}
use Rattle.percpu_core.specs.Phases.{holds_base, has_bias, is_dead_in, is_killing_in, is_open_in, may_be_zero, has_odd_front, next_slot, closed_so_far}
use Rattle.percpu_core.specs.Views.{count, held_by_all, additions_to_undo}
use Rattle.percpu_core.specs.ReleaseLaw.{Origin}
use Rattle.percpu_core.specs.LimitLaw.{fronts_due}
use Rattle.percpu_core.specs.Laws.{Laws}
use Rattle.percpu_core.specs.ControlSteps.{has_slot_to_close, has_closed_all, is_opening, moved_by}
use Rattle.percpu_core.proofs.Counting.{value-least, closed_delta, open_deltas-closed}
use Rattle.percpu_core.proofs.SlotLists.{OpenAs, slot_there, open_deltas-set, small-set, small-at, open-set, open-below}
use Rattle.percpu_core.proofs.ControlSetting.{After}
use Rattle.percpu_core.proofs.SlotsKeep.{changed, standing_at, slots_keep}

-- what the collecting leaves, if the sum law holds before
moved_is : (u : ℤ) (v n : ℕ) (a : ℤ) → pos v +ℤ a +ℤ u -ℤ pos (bias * 1) ≡ pos n → a ≡ pos 0 → (pos (moved_by u v - bias) +ℤ a +ℤ pos 0 -ℤ pos (bias * 0) ≡ pos v +ℤ a +ℤ u -ℤ pos (bias * 1)) × (moved_by u v - bias ≡ n)
moved_is (pos m) v n a e h = (omega (arith, ints), omega (arith, ints))
moved_is (negsuc m) v n a e h = (omega (arith, ints), omega (arith, ints))

is_last : (i n : ℕ) → (i + 1 == n) ≡ true → i + 1 ≡ n
is_last i n h = grind (arith, nat_tests)

not_last : (i n : ℕ) → (i + 1 == n) ≡ false → i + 1 ≡ n → ⊥
not_last i n h e = grind (arith, nat_tests)

below : (k n : ℕ) → k < n → nat_lt k n ≡ true
below k n h = grind (arith, nat_tests)

place : (i k : ℕ) → Opening i ≡ Opening k → i ≡ k
place i k e = cc

module _ (o : Origin) (cells : Cells) (c : ControlView) (vs : List View) (l : Laws o cells c vs) where
  -- the value has the initial reference in these phases
  some_value : (x : Phase) → c.standing.phase ≡ x → holds_base x ≡ true → 1 ≤ cells.shared.value
  some_value x is base = let in_it : count (holds_base c.standing.phase) ≡ 1 = ap (λ (z : Phase). count (holds_base z)) is ∙ ap count base in let least = value-least o cells c vs l in omega arith

  slots_as : (x : Phase) → c.standing.phase ≡ x → OpenAs (is_open_in x) cells.slots
  slots_as x is k s e = l.phase.slots k s e ∙ ap (λ (z : Phase). is_open_in z k) is

  sum_most : (x : Phase) → c.standing.phase ≡ x → c.standing.uncollected ≤ℤ pos (most_delta * closed_so_far x)
  sum_most x is = subst (λ (z : Phase). c.standing.uncollected ≤ℤ pos (most_delta * closed_so_far z)) is l.limit.uncollected_most

  sum_least : (x : Phase) → c.standing.phase ≡ x → neg_ℤ (pos (most_delta * closed_so_far x)) ≤ℤ c.standing.uncollected
  sum_least x is = subst (λ (z : Phase). neg_ℤ (pos (most_delta * closed_so_far z)) ≤ℤ c.standing.uncollected) is l.limit.uncollected_least

  -- with every slot closed the shared value, the sum and the bias are all there is
  pub collected_is : (i : ℕ) → c.standing.phase ≡ Closing i → i ≡ length cells.slots
      → (pos (moved_by c.standing.uncollected cells.shared.value - bias) +ℤ open_deltas cells.slots +ℤ pos 0 -ℤ pos (bias * 0) ≡ pos cells.shared.value +ℤ open_deltas cells.slots +ℤ c.standing.uncollected -ℤ pos (bias * 1))
      × (1 ≤ moved_by c.standing.uncollected cells.shared.value - bias) × OpenAs (λ k. false) cells.slots
  collected_is i is all = let shut = all_shut in
      let none = open_deltas-closed cells.slots shut in
      let counted = moved_is c.standing.uncollected cells.shared.value (1 + held_by_all vs + additions_to_undo vs) (open_deltas cells.slots) (whole ∙ l.sum ∙ base) none in
      (counted.0, omega arith, shut)
    where
      beyond : (k i : ℕ) → k < i → nat_le i k ≡ false
      beyond k i h = grind (arith, nat_tests)

      all_shut : OpenAs (λ k. false) cells.slots
      all_shut = open-below cells.slots (nat_le i) (λ k. false) (slots_as (Closing i) is) (λ k h. beyond k i (omega arith))

      whole : pos cells.shared.value +ℤ open_deltas cells.slots +ℤ c.standing.uncollected -ℤ pos (bias * 1) ≡ pos cells.shared.value +ℤ open_deltas cells.slots +ℤ c.standing.uncollected -ℤ pos (bias * count (has_bias c.standing.phase))
      whole = ap (λ (z : Phase). pos cells.shared.value +ℤ open_deltas cells.slots +ℤ c.standing.uncollected -ℤ pos (bias * count (has_bias z))) (sym is)

      base : pos (count (holds_base c.standing.phase) + held_by_all vs + additions_to_undo vs) ≡ pos (1 + held_by_all vs + additions_to_undo vs)
      base = ap (λ (z : Phase). pos (count (holds_base z) + held_by_all vs + additions_to_undo vs)) is

  -- a slot that is opened counted nothing while it was closed
  opened_sum : (i : ℕ) → c.standing.phase ≡ Opening i → i < length cells.slots
      → pos cells.shared.value +ℤ open_deltas (set cells.slots i (Open (pos 0))) +ℤ c.standing.uncollected -ℤ pos (bias * 1) ≡ pos cells.shared.value +ℤ open_deltas cells.slots +ℤ c.standing.uncollected -ℤ pos (bias * 1)
  opened_sum i is there = ap (λ (a : ℤ). pos cells.shared.value +ℤ a +ℤ c.standing.uncollected -ℤ pos (bias * 1)) (unmoved _ _ _ moved shut)
    where
      moved : open_deltas (set cells.slots i (Open (pos 0))) +ℤ delta (slot_at cells.slots i) ≡ open_deltas cells.slots +ℤ pos 0
      moved = open_deltas-set cells.slots i (Open (pos 0)) there

      not_yet : nat_lt i i ≡ false
      not_yet = grind (arith, nat_tests)

      shut : delta (slot_at cells.slots i) ≡ pos 0
      shut = closed_delta (slot_at cells.slots i) (slots_as (Opening i) is i (slot_at cells.slots i) (slot_there cells.slots i there) ∙ not_yet)

      unmoved : (a b d : ℤ) → a +ℤ d ≡ b +ℤ pos 0 → d ≡ pos 0 → a ≡ b
      unmoved a b d e f = omega (arith, ints)

  opened_as : (i : ℕ) → c.standing.phase ≡ Opening i → OpenAs (λ k. nat_lt k (i + 1)) (set cells.slots i (Open (pos 0)))
  opened_as i is = open-set cells.slots i (Open (pos 0)) (λ k. nat_lt k i) (λ k. nat_lt k (i + 1)) (slots_as (Opening i) is) (now i) (λ k n. same i k n)
    where
      now : (i : ℕ) → true ≡ nat_lt i (i + 1)
      now i = grind (arith, nat_tests)

      same : (i k : ℕ) → (k ≡ i → ⊥) → nat_lt k i ≡ nat_lt k (i + 1)
      same i k n = grind (arith, nat_tests)

  -- one slot is closed
  closes : (x : Phase) (i : ℕ) → c.standing.phase ≡ x → next_slot x ≡ i → i < length cells.slots → closed_so_far x ≡ i → has_bias x ≡ true → holds_base x ≡ true → may_be_zero x ≡ false
      → is_dead_in x c.killing ≡ c.killing → is_killing_in x c.killing ≡ c.killing → has_odd_front x ≡ false → fronts_due x c.killing ≡ 2 * count c.killing
      → ((k : ℕ) → is_open_in x k ≡ nat_le i k) → c.standing.to_mark ≡ false
      → Laws o (changed cells cells.shared.value (set cells.slots i Closed)) (standing_at c (Closing (i + 1)) (c.standing.uncollected +ℤ delta (slot_at cells.slots i))) vs
  closes x i is next there so_far biased base never dead killing even due open_from idle = slots_keep o cells c vs l x cells.shared.value (set cells.slots i Closed) (Closing (i + 1)) (c.standing.uncollected +ℤ delta (slot_at cells.slots i)) record {
    found = is;
    idle = idle;
    sums = let moved = open_deltas-set cells.slots i Closed there in let b : count (has_bias x) ≡ 1 = ap count biased in closed_sum cells.shared.value (bias * 1) (bias * count (has_bias x)) (open_deltas cells.slots) (open_deltas (set cells.slots i Closed)) (delta (slot_at cells.slots i)) moved (omega arith);
    some_left = some_value x is base;
    slots = open-set cells.slots i Closed (is_open_in x) (nat_le (i + 1)) (slots_as x is) (not_above i) (λ k n. open_from k ∙ above i k n);
    size = length-set cells.slots i Closed;
    small = small-set cells.slots i Closed l.limit.deltas (omega (arith, ints));
    closed = omega arith;
    opening = λ k e. cc;
    most = let d = small-at cells.slots i l.limit.deltas there in let m = sum_most x is in more_most _ _ i (subst (λ (n : ℕ). c.standing.uncollected ≤ℤ pos (most_delta * n)) so_far m) d;
    least = let d = small-at cells.slots i l.limit.deltas there in let m = sum_least x is in more_least _ _ i (subst (λ (n : ℕ). neg_ℤ (pos (most_delta * n)) ≤ℤ c.standing.uncollected) so_far m) d;
    base = (base, refl);
    never_zero = (never, refl);
    dead = dead;
    killing = killing;
    even = even;
    due = due;
  }
    where
      closed_sum : (v k k' : ℕ) (a a' d : ℤ) → a' +ℤ d ≡ a +ℤ pos 0 → k ≡ k' → pos v +ℤ a' +ℤ (c.standing.uncollected +ℤ d) -ℤ pos k ≡ pos v +ℤ a +ℤ c.standing.uncollected -ℤ pos k'
      closed_sum v k k' a a' d e h = omega (arith, ints)

      not_above : (i : ℕ) → false ≡ nat_le (i + 1) i
      not_above i = grind (arith, nat_tests)

      above : (i k : ℕ) → (k ≡ i → ⊥) → nat_le i k ≡ nat_le (i + 1) k
      above i k n = grind (arith, nat_tests)

      more_most : (u d : ℤ) (i : ℕ) → u ≤ℤ pos (most_delta * i) → IsDelta d → (u +ℤ d) ≤ℤ pos (most_delta * (i + 1))
      more_most u d i h e = omega (arith, ints)

      more_least : (u d : ℤ) (i : ℕ) → neg_ℤ (pos (most_delta * i)) ≤ℤ u → IsDelta d → neg_ℤ (pos (most_delta * (i + 1))) ≤ℤ (u +ℤ d)
      more_least u d i h e = omega (arith, ints)

  abbrev Closes : Phase → Type 0
  Closes x = Laws o (changed cells cells.shared.value (set cells.slots (next_slot x) Closed)) (standing_at c (Closing (next_slot x + 1)) (c.standing.uncollected +ℤ delta (slot_at cells.slots (next_slot x)))) vs

  close_from : (x : Phase) → c.standing.phase ≡ x → not (has_slot_to_close (length cells.slots) x) ≡ false → c.standing.to_mark ≡ false → Closes x
  close_from LiveSlots is h idle = let some = l.limit.some_slot in
      closes LiveSlots 0 is refl (omega arith) refl refl refl refl (sym (l.phase.killing ∙ ap (λ (z : Phase). is_killing_in z c.killing) is)) (sym (l.phase.killing ∙ ap (λ (z : Phase). is_killing_in z c.killing) is)) refl (live_due is) (λ k. from_first k) idle
    where
      live_due : c.standing.phase ≡ LiveSlots → 0 ≡ 2 * count c.killing
      live_due is = let no : count c.killing ≡ 0 = ap count (l.phase.killing ∙ ap (λ (z : Phase). is_killing_in z c.killing) is) in omega arith

      from_first : (k : ℕ) → true ≡ nat_le 0 k
      from_first k = grind (arith, nat_tests)
  close_from (Closing i) is h idle = closes (Closing i) i is refl (below h) refl refl refl refl refl refl refl refl (λ k. refl) idle
    where
      below : not (nat_lt i (length cells.slots)) ≡ false → i < length cells.slots
      below h = grind (arith, nat_tests)
  close_from LiveAtomic is h idle = cc
  close_from Collected is h idle = cc
  close_from Confirmed is h idle = cc
  close_from Dead is h idle = cc
  close_from Reviving is h idle = cc
  close_from Fronted is h idle = cc
  close_from (Opening i) is h idle = cc

  pub close : not (has_slot_to_close (length cells.slots) c.standing.phase) ≡ false → c.standing.to_mark ≡ false → After o cells c vs l Close
  close h idle = close_from c.standing.phase refl h idle

  -- the sum of what was closed is collected
  collect_by : (i : ℕ) → c.standing.phase ≡ Closing i → i ≡ length cells.slots → c.standing.to_mark ≡ false → (b : Bool) → cells.shared.dead ≡ b
      → Laws o (changed cells (moved_by c.standing.uncollected cells.shared.value - bias) cells.slots) (standing_at c (if b then Collected else LiveAtomic) (pos 0)) vs
  collect_by i is all idle true dead = let n = collected_is i is all in let killed : c.killing ≡ true = sym (l.phase.dead ∙ ap (λ (z : Phase). is_dead_in z c.killing) is) ∙ dead in
      let due : count c.killing ≡ 1 = ap count killed in slots_keep o cells c vs l (Closing i) _ cells.slots Collected (pos 0) record {
        found = is;
        idle = idle;
        sums = n.0;
        some_left = n.1;
        slots = n.2;
        size = refl;
        small = l.limit.deltas;
        closed = omega arith;
        opening = λ k e. cc;
        most = omega (arith, ints);
        least = omega (arith, ints);
        base = (refl, refl);
        never_zero = (refl, refl);
        dead = killed;
        killing = killed;
        even = refl;
        due = omega arith;
      }
  collect_by i is all idle false dead = let n = collected_is i is all in let killed : c.killing ≡ false = sym (l.phase.dead ∙ ap (λ (z : Phase). is_dead_in z c.killing) is) ∙ dead in
      let due : count c.killing ≡ 0 = ap count killed in slots_keep o cells c vs l (Closing i) _ cells.slots LiveAtomic (pos 0) record {
        found = is;
        idle = idle;
        sums = n.0;
        some_left = n.1;
        slots = n.2;
        size = refl;
        small = l.limit.deltas;
        closed = omega arith;
        opening = λ k e. cc;
        most = omega (arith, ints);
        least = omega (arith, ints);
        base = (refl, refl);
        never_zero = (refl, refl);
        dead = killed;
        killing = killed;
        even = refl;
        due = omega arith;
      }

  abbrev Collects : Phase → Type 0
  Collects x = Laws o (changed cells (moved_by c.standing.uncollected cells.shared.value - bias) cells.slots) (standing_at c (if cells.shared.dead then Collected else LiveAtomic) (pos 0)) vs

  collect_from : (x : Phase) → c.standing.phase ≡ x → not (has_closed_all (length cells.slots) x) ≡ false → c.standing.to_mark ≡ false → Collects x
  collect_from (Closing i) is h idle = collect_by i is (all i h) idle cells.shared.dead refl
    where
      all : (i : ℕ) → not (i == length cells.slots) ≡ false → i ≡ length cells.slots
      all i h = grind (arith, nat_tests)
  collect_from LiveSlots is h idle = cc
  collect_from LiveAtomic is h idle = cc
  collect_from Collected is h idle = cc
  collect_from Confirmed is h idle = cc
  collect_from Dead is h idle = cc
  collect_from Reviving is h idle = cc
  collect_from Fronted is h idle = cc
  collect_from (Opening i) is h idle = cc

  pub collect : not (has_closed_all (length cells.slots) c.standing.phase) ≡ false → c.standing.to_mark ≡ false → After o cells c vs l Collect
  collect h idle = collect_from c.standing.phase refl h idle

  -- the bias is added while every slot is closed
  pub add_bias : c.standing.phase ≡ LiveAtomic → c.standing.to_mark ≡ false → After o cells c vs l AddBias
  add_bias is idle = let some = some_value LiveAtomic is refl in let slot = l.limit.some_slot in slots_keep o cells c vs l LiveAtomic (cells.shared.value + bias) cells.slots (Opening 0) c.standing.uncollected record {
    found = is;
    idle = idle;
    sums = biased cells.shared.value (open_deltas cells.slots) c.standing.uncollected;
    some_left = omega arith;
    slots = λ k s e. slots_as LiveAtomic is k s e ∙ none_below k;
    size = refl;
    small = l.limit.deltas;
    closed = omega arith;
    opening = λ k e. let first = place 0 k e in omega arith;
    most = sum_most LiveAtomic is;
    least = sum_least LiveAtomic is;
    base = (refl, refl);
    never_zero = (refl, refl);
    dead = refl;
    killing = refl;
    even = refl;
    due = refl;
  }
    where
      biased : (v : ℕ) (a u : ℤ) → pos (v + bias) +ℤ a +ℤ u -ℤ pos (bias * 1) ≡ pos v +ℤ a +ℤ u -ℤ pos (bias * 0)
      biased v a u = omega (arith, ints)

      none_below : (k : ℕ) → false ≡ nat_lt k 0
      none_below k = grind (arith, nat_tests)

  -- one slot is opened; with the last one the gate lives on its slots
  abbrev Opens : Phase → Type 0
  Opens x = Laws o (changed cells cells.shared.value (set cells.slots (next_slot x) (Open (pos 0))))
      (standing_at c (if next_slot x + 1 == length cells.slots then LiveSlots else Opening (next_slot x + 1)) c.standing.uncollected) vs

  opens_by : (i : ℕ) → c.standing.phase ≡ Opening i → c.standing.to_mark ≡ false → (b : Bool) → (i + 1 == length cells.slots) ≡ b
      → Laws o (changed cells cells.shared.value (set cells.slots i (Open (pos 0)))) (standing_at c (if b then LiveSlots else Opening (i + 1)) c.standing.uncollected) vs
  opens_by i is idle true last = let there = l.phase.opening i is in let n = is_last i (length cells.slots) last in
      slots_keep o cells c vs l (Opening i) cells.shared.value (set cells.slots i (Open (pos 0))) LiveSlots c.standing.uncollected record {
        found = is;
        idle = idle;
        sums = opened_sum i is there;
        some_left = some_value (Opening i) is refl;
        slots = open-below _ (λ k. nat_lt k (i + 1)) (λ k. true) (opened_as i is) (λ k h. let size = length-set cells.slots i (Open (pos 0)) in below k (i + 1) (omega arith));
        size = length-set cells.slots i (Open (pos 0));
        small = small-set cells.slots i (Open (pos 0)) l.limit.deltas (omega (arith, ints));
        closed = omega arith;
        opening = λ k e. cc;
        most = sum_most (Opening i) is;
        least = sum_least (Opening i) is;
        base = (refl, refl);
        never_zero = (refl, refl);
        dead = refl;
        killing = refl;
        even = refl;
        due = refl;
      }
  opens_by i is idle false more = let there = l.phase.opening i is in let n : i + 1 ≡ length cells.slots → ⊥ = not_last i (length cells.slots) more in
      slots_keep o cells c vs l (Opening i) cells.shared.value (set cells.slots i (Open (pos 0))) (Opening (i + 1)) c.standing.uncollected record {
        found = is;
        idle = idle;
        sums = opened_sum i is there;
        some_left = some_value (Opening i) is refl;
        slots = opened_as i is;
        size = length-set cells.slots i (Open (pos 0));
        small = small-set cells.slots i (Open (pos 0)) l.limit.deltas (omega (arith, ints));
        closed = omega arith;
        opening = λ k e. let next = place (i + 1) k e in omega arith;
        most = sum_most (Opening i) is;
        least = sum_least (Opening i) is;
        base = (refl, refl);
        never_zero = (refl, refl);
        dead = refl;
        killing = refl;
        even = refl;
        due = refl;
      }

  open_from : (x : Phase) → c.standing.phase ≡ x → not (is_opening x) ≡ false → c.standing.to_mark ≡ false → Opens x
  open_from (Opening i) is h idle = opens_by i is idle (i + 1 == length cells.slots) refl
  open_from LiveSlots is h idle = cc
  open_from LiveAtomic is h idle = cc
  open_from (Closing i) is h idle = cc
  open_from Collected is h idle = cc
  open_from Confirmed is h idle = cc
  open_from Dead is h idle = cc
  open_from Reviving is h idle = cc
  open_from Fronted is h idle = cc

  pub open_next : not (is_opening c.standing.phase) ≡ false → c.standing.to_mark ≡ false → After o cells c vs l OpenNext
  open_next h idle = open_from c.standing.phase refl h idle
