-- What an enabled step needs of the numbers of a world: room on the words, and places that are there.
use Rattle.std.proofs.Common.{◌≡◌, ℕ, zero, suc, ◌+◌, ◌*◌, ◌^◌, ◌<◌, ◌≤◌, Bool, true, false, not, ◌==◌, if◌then◌else◌, List, [], ◌∷◌, map, length, get_or, Option, Some, None, refl, arith, ap, sym, ◌∙◌, subst}
use Rattle.std.specs.Prelude.{is_none, ℤ, pos, negsuc, neg_ℤ, ◌≤ℤ◌, unsigned_abs}
use Rattle.std.proofs.lemmas.Int.{ints}
use Rattle.std.proofs.lemmas.Bool.Decides.{nat_tests}
use Rattle.std.proofs.Math.ListN.{length-map}
use mathlib.Core.Option.{some, some-ne-none}
use lib.ListN.{get_elem?}
use Rattle.percpu_core.specs.declared.event.Event.TheVariants.{Pass, Control}
use Rattle.percpu_core.specs.declared.pass_event.PassEvent.{PassEvent}
use Rattle.percpu_core.specs.declared.pass_event.PassEvent.TheVariants as pass
use Rattle.percpu_core.specs.declared.control_event.ControlEvent.{ControlEvent}
use Rattle.percpu_core.specs.declared.control_event.ControlEvent.TheVariants as control
use Rattle.percpu_core.specs.declared.not_enabled.NotEnabled.{NotEnabled}
use Rattle.percpu_core.specs.declared.not_enabled.NotEnabled.TheVariants.{NoSuchActor, NoSuchSlot, WrongPhase, NothingHeld, MidCall, HeldFull, NoSuchWord, BadAmount}
use Rattle.percpu_core.specs.declared.pass_standing.PassStanding.{PassStanding}
use Rattle.percpu_core.specs.declared.phase.Phase.{Phase}
use Rattle.percpu_core.specs.declared.phase.Phase.TheVariants.{LiveSlots, LiveAtomic, Closing, Collected, Confirmed, Dead, Reviving, Fronted, Opening}
use Rattle.percpu_core.specs.declared.reply.Reply.{Reply}
use Rattle.percpu_core.specs.declared.reply.Reply.TheVariants.{Given, Refused, NotLast, ToMark, Last, Lost, Won}
use Rattle.percpu_core.specs.declared.view.PassView.{PassView}
use Rattle.percpu_core.specs.declared.view.View.{View}
use Rattle.percpu_core.specs.declared.view.View.TheVariants.{OfPass}
use Rattle.percpu_core.specs.Views.{to_undo, releases_of_passes}
use Rattle.percpu_core.specs.ReleaseLaw.{Origin}
use Rattle.percpu_words.specs.SlotWord.{most_delta, IsDelta}
use Rattle.percpu_core.specs.Cells.{Cells, sizes_of, delta, slot_at, is_open_with}
use Rattle.percpu_core.specs.Phases.{next_slot, closed_so_far}
use Rattle.percpu_core.specs.declared.limits.TheConstants.{HELD_LIMIT}
use Rattle.percpu_core.specs.PassSteps.{hinders_pass, added, taken_off, given, dropped, pass_reply, names_no_word, names_no_slot, has_bad_amount}
use Rattle.percpu_core.specs.ControlSteps as controls
use Rattle.percpu_core.specs.ControlSteps.{hinders_control}
use Rattle.percpu_core.specs.Machine.{State, IsEnabled, pass_at, joining, pass_refusal, refusal}
use Rattle.percpu_core.specs.Snapshots.{Snapshot, standing_of, kept, IsLawful}
use Rattle.percpu_core.proofs.Passes.{EachPass-at}
use Rattle.percpu_core.proofs.Counting.{value-most, count-most}
use Rattle.percpu_core.proofs.PassEvents.{held_in_value, undo_in_value}
use Rattle.percpu_core.proofs.ControlSetting.{some_value}
use Rattle.percpu_core.proofs.Enabled.{no_reason, not_lt, not_le, owes_undo, only}
use Rattle.percpu_core.proofs.SlotLists.{small-at}
use Rattle.percpu_core.proofs.SwitchEvents.{collected_is}
use Rattle.percpu_core.proofs.Kept.{Holds, seat}

place_of : (vs : List View) (k : ℕ) (v : View) → get_elem? vs k ≡ some v → k < length vs
place_of [] k v e = absurd (some-ne-none v (sym e))
place_of (x ∷ xs) zero v e = omega arith
place_of (x ∷ xs) (suc k) v e = let r = place_of xs k v e in omega arith

-- what a pass in this state needs
pub record PassNeeds (cells : Cells) (q : PassStanding) (e : PassEvent) : Type 0 where
  pub adds : cells.shared.value + added e < 2 ^ 50
  pub takes : taken_off e ≤ cells.shared.value
  pub there : names_no_word (length cells.words) e ≡ false
  pub slot_there : names_no_slot (length cells.slots) e ≡ false
  pub amount : has_bad_amount e ≡ false
  pub fits : q.held + given e (pass_reply e cells) ≤ HELD_LIMIT
  pub holds : dropped e (pass_reply e cells) ≤ q.held

-- what holds of both replies holds of the one that is given
given_if : (e : PassEvent) (x y : Reply) (n : ℕ) (b : Bool) → given e x ≤ n → given e y ≤ n → given e (if b then x else y) ≤ n
given_if e x y n true h g = h
given_if e x y n false h g = g

dropped_if : (e : PassEvent) (x y : Reply) (n : ℕ) (b : Bool) → dropped e x ≤ n → dropped e y ≤ n → dropped e (if b then x else y) ≤ n
dropped_if e x y n true h g = h
dropped_if e x y n false h g = g

left_no_delta : (b : Bool) (x y : Reply) → controls.closed_delta x ≡ pos 0 → controls.closed_delta y ≡ pos 0 → controls.closed_delta (if b then x else y) ≡ pos 0
left_no_delta true x y h g = h
left_no_delta false x y h g = g

few_delta : (d : ℤ) → d ≡ pos 0 → unsigned_abs d ≤ 2 ^ 32
few_delta d h = omega (arith, ints)

some_delta : (d : ℤ) → IsDelta d → unsigned_abs d ≤ 2 ^ 32
some_delta d h = omega (arith, ints)

few_sum : (u : ℤ) (n : ℕ) → n ≤ 512 → u ≤ℤ pos (most_delta * n) → neg_ℤ (pos (most_delta * n)) ≤ℤ u → unsigned_abs u ≤ 2 ^ 29
few_sum u n f h g = omega (arith, ints)

moved_most : (u : ℤ) (v : ℕ) → unsigned_abs u ≤ 2 ^ 29 → v < 2 ^ 49 → controls.moved_by u v < 2 ^ 62
moved_most (pos n) v h g = omega (arith, ints)
moved_most (negsuc n) v h g = omega (arith, ints)

module _ (o : Origin) (m : Snapshot) (l : Holds o m) where
  -- the releases of all seats
  pub few_releases : m.control.releases + releases_of_passes m.others < 2 ^ 42
  few_releases = let r = l.release.releases in let z = l.release.zeros in let k = l.release.kills in let few : m.control.standing.kills ≤ 2 ^ 40 = l.limit.kills in
      let a = count-most m.cells.shared.zero in let b = count-most m.cells.shared.dead in let c = count-most o.dead in omega arith

  pub few_fronts : m.cells.front < 2 ^ 42
  few_fronts = let f = l.limit.front in let same = l.front.known in let few : m.control.standing.kills ≤ 2 ^ 40 = l.limit.kills in let c = count-most o.dead in omega arith

  module _ (k : ℕ) (p : PassView) (at : get_elem? m.others k ≡ some (OfPass p)) where
    room : p.standing.held ≤ HELD_LIMIT
    room = EachPass-at _ m.others k (OfPass p) l.limit.held at

    abbrev Free : PassEvent → Type 0
    Free e = (why : NotEnabled) → hinders_pass (sizes_of m.cells) p.standing e why ≡ false

    abbrev Needs : PassEvent → Type 0
    Needs e = PassNeeds m.cells p.standing e

    small : m.cells.shared.value < 2 ^ 49
    small = value-most o m.cells m.control m.others l

    needs_by : (e : PassEvent) → Free e → Needs e
    needs_by pass.AddTry n = let few = small in let fits = not_lt HELD_LIMIT (p.standing.held + 1) (n HeldFull) in
        let one = given_if pass.AddTry Refused Given 1 m.cells.shared.zero (omega arith) (omega arith) in
        let none = dropped_if pass.AddTry Refused Given 0 m.cells.shared.zero (omega arith) (omega arith) in
        record { adds = omega arith; takes = omega arith; there = refl; slot_there = refl; amount = refl; fits = omega arith; holds = omega arith }
    needs_by pass.AddLive n = let few = small in let fits = not_lt HELD_LIMIT (p.standing.held + 1) (n HeldFull) in
        let one = given_if pass.AddLive Refused Given 1 m.cells.shared.dead (omega arith) (omega arith) in
        let none = dropped_if pass.AddLive Refused Given 0 m.cells.shared.dead (omega arith) (omega arith) in
        record { adds = omega arith; takes = omega arith; there = refl; slot_there = refl; amount = refl; fits = omega arith; holds = omega arith }
    needs_by (pass.AddGet k) n = let few = small in let fits = not_lt HELD_LIMIT (p.standing.held + k) (n HeldFull) in
        record { adds = omega arith; takes = omega arith; there = refl; slot_there = refl; amount = n BadAmount; fits = fits; holds = omega arith }
    needs_by (pass.Sub k) n = let few = small in let most = room in let held = not_lt p.standing.held k (n NothingHeld) in
        let in_value = held_in_value o m.cells m.control m.others l _ p at in
        record { adds = omega arith; takes = omega arith; there = refl; slot_there = refl; amount = n BadAmount; fits = omega arith; holds = held }
    needs_by pass.Undo n = let few = small in let most = room in
        let one : to_undo p.standing.pending ≡ 1 = ap to_undo (owes_undo p.standing.pending (n MidCall) (n WrongPhase)) in
        let in_value = undo_in_value o m.cells m.control m.others l _ p at in
        record { adds = omega arith; takes = omega arith; there = refl; slot_there = refl; amount = refl; fits = omega arith; holds = omega arith }
    needs_by pass.Mark n = let few = small in let most = room in
        record { adds = omega arith; takes = omega arith; there = refl; slot_there = refl; amount = refl; fits = omega arith; holds = omega arith }
    needs_by (pass.Look k) n = let few = small in let most = room in
        record { adds = omega arith; takes = omega arith; there = refl; slot_there = n NoSuchSlot; amount = refl; fits = omega arith; holds = omega arith }
    needs_by (pass.Take k d x) n = let few = small in let fits = not_lt HELD_LIMIT (p.standing.held + x) (n HeldFull) in
        let most = given_if (pass.Take k d x) Won Lost x (is_open_with d (slot_at m.cells.slots k)) (omega arith) (omega arith) in
        let none = dropped_if (pass.Take k d x) Won Lost 0 (is_open_with d (slot_at m.cells.slots k)) (omega arith) (omega arith) in
        record { adds = omega arith; takes = omega arith; there = refl; slot_there = n NoSuchSlot; amount = n BadAmount; fits = omega arith; holds = omega arith }
    needs_by (pass.Give k d x) n = let few = small in let most = room in let held = not_lt p.standing.held x (n NothingHeld) in
        let none = given_if (pass.Give k d x) Won Lost 0 (is_open_with d (slot_at m.cells.slots k)) (omega arith) (omega arith) in
        let drops = dropped_if (pass.Give k d x) Won Lost x (is_open_with d (slot_at m.cells.slots k)) (omega arith) (omega arith) in
        record { adds = omega arith; takes = omega arith; there = refl; slot_there = n NoSuchSlot; amount = n BadAmount; fits = omega arith; holds = omega arith }
    needs_by pass.LookShared n = let few = small in let most = room in
        record { adds = omega arith; takes = omega arith; there = refl; slot_there = refl; amount = refl; fits = omega arith; holds = omega arith }
    needs_by pass.LoadFront n = let few = small in let most = room in
        record { adds = omega arith; takes = omega arith; there = refl; slot_there = refl; amount = refl; fits = omega arith; holds = omega arith }
    needs_by (pass.LoadWord k) n = let few = small in let most = room in
        record { adds = omega arith; takes = omega arith; there = n NoSuchWord; slot_there = refl; amount = refl; fits = omega arith; holds = omega arith }

    pub needs : (e : PassEvent) → IsEnabled (hinders_pass (sizes_of m.cells) p.standing e) → Needs e
    needs e h = needs_by e (no_reason (hinders_pass (sizes_of m.cells) p.standing e) h)

  pass_needs : (k : ℕ) (e : PassEvent) (q : Option PassStanding) → pass_at (kept m) k ≡ q → pass_refusal m.cells q e ≡ None
      → (k < length (kept m).passes) × ((r : PassStanding) → q ≡ Some r → PassNeeds m.cells r e)
  pass_needs k e None is h = cc
  pass_needs k e (Some q) is h = let s = seat m.others k q is in let p : PassView = s.view in
      let free : IsEnabled (hinders_pass (sizes_of m.cells) p.standing e) = subst (λ (q : PassStanding). IsEnabled (hinders_pass (sizes_of m.cells) q e)) (sym s.stands) h in
      let all : length (map standing_of m.others) ≡ length m.others = length-map m.others standing_of in let there = place_of m.others k (OfPass p) s.at in
      (omega arith, λ r e'. subst (λ (q : PassStanding). PassNeeds m.cells q e) (s.stands ∙ same q r e') (needs k p s.at e free))
    where
      same : (q r : PassStanding) → Some q ≡ Some r → q ≡ r
      same q r e = cc

  few_slots : length m.cells.slots ≤ 512
  few_slots = l.limit.slots

  next_few_in : (x : Phase) → m.control.standing.phase ≡ x → next_slot x ≤ 512
  next_few_in (Closing i) is = let few = few_slots in let below : i ≤ length m.cells.slots = subst (λ (x : Phase). closed_so_far x ≤ length m.cells.slots) is l.phase.closed in omega arith
  next_few_in (Opening i) is = let few = few_slots in let below = l.phase.opening i is in omega arith
  next_few_in LiveSlots is = omega arith
  next_few_in LiveAtomic is = omega arith
  next_few_in Collected is = omega arith
  next_few_in Confirmed is = omega arith
  next_few_in Dead is = omega arith
  next_few_in Reviving is = omega arith
  next_few_in Fronted is = omega arith

  pub next_few : next_slot m.control.standing.phase ≤ 512
  next_few = next_few_in m.control.standing.phase refl

  pub sum_few : unsigned_abs m.control.standing.uncollected ≤ 2 ^ 29
  sum_few = let few = few_slots in let closed = l.phase.closed in few_sum m.control.standing.uncollected (closed_so_far m.control.standing.phase) (omega arith) l.limit.uncollected_most l.limit.uncollected_least

  close_there : (x : Phase) → not (controls.has_slot_to_close (length m.cells.slots) x) ≡ false → next_slot x < length m.cells.slots
  close_there LiveSlots h = let some = l.limit.some_slot in omega arith
  close_there (Closing i) h = grind (arith, nat_tests)
  close_there LiveAtomic h = cc
  close_there Collected h = cc
  close_there Confirmed h = cc
  close_there Dead h = cc
  close_there Reviving h = cc
  close_there Fronted h = cc
  close_there (Opening i) h = cc

  open_there : (x : Phase) → m.control.standing.phase ≡ x → not (controls.is_opening x) ≡ false → next_slot x < length m.cells.slots
  open_there (Opening i) is h = l.phase.opening i is
  open_there LiveSlots is h = cc
  open_there LiveAtomic is h = cc
  open_there (Closing i) is h = cc
  open_there Collected is h = cc
  open_there Confirmed is h = cc
  open_there Dead is h = cc
  open_there Reviving is h = cc
  open_there Fronted is h = cc

  collects : (x : Phase) → m.control.standing.phase ≡ x → not (controls.has_closed_all (length m.cells.slots) x) ≡ false → controls.ValueFits control.Collect m.control.standing.uncollected m.cells.shared.value
  collects (Closing i) is h = let some = (collected_is o m.cells m.control m.others l i is (all i h)).1 in
      (omega arith, moved_most m.control.standing.uncollected m.cells.shared.value sum_few (value-most o m.cells m.control m.others l))
    where
      all : (i : ℕ) → not (i == length m.cells.slots) ≡ false → i ≡ length m.cells.slots
      all i h = grind (arith, nat_tests)
  collects LiveSlots is h = cc
  collects LiveAtomic is h = cc
  collects Collected is h = cc
  collects Confirmed is h = cc
  collects Dead is h = cc
  collects Reviving is h = cc
  collects Fronted is h = cc
  collects (Opening i) is h = cc

  -- what a step of the control needs of the numbers
  pub record ControlNeeds (e : ControlEvent) : Type 0 where
    pub value : controls.ValueFits e m.control.standing.uncollected m.cells.shared.value
    pub next : controls.NextIsThere e m.control.standing.phase (length m.cells.slots)
    pub delta : unsigned_abs (controls.closed_delta (controls.control_reply e m.control.standing m.cells)) ≤ 2 ^ 32

  no_delta : unsigned_abs (pos 0) ≤ 2 ^ 32
  no_delta = few_delta (pos 0) refl

  -- the step belongs to its phase
  abbrev IsInTurn : ControlEvent → Type 0
  IsInTurn e = not (controls.is_in_turn (length m.cells.slots) m.cells.shared.zero m.control.standing e) ≡ false

  pub in_turn_needs : (e : ControlEvent) → IsInTurn e → ControlNeeds e
  in_turn_needs control.MarkDead h = record { value = tt; next = tt; delta = no_delta }
  in_turn_needs control.Close h = let there = close_there m.control.standing.phase h in
      record { value = tt; next = there; delta = some_delta (delta (slot_at m.cells.slots (next_slot m.control.standing.phase))) (small-at m.cells.slots (next_slot m.control.standing.phase) l.limit.deltas there) }
  in_turn_needs control.Collect h = record { value = collects m.control.standing.phase refl h; next = tt; delta = no_delta }
  in_turn_needs control.Confirm h = record { value = tt; next = tt; delta = no_delta }
  in_turn_needs control.DropBase h = record { value = some_value o m.cells m.control m.others l Confirmed (only Confirmed m.control.standing.phase h) refl; next = tt; delta = few_delta _ (left_no_delta _ ToMark NotLast refl refl) }
  in_turn_needs control.Mark h = record { value = tt; next = tt; delta = few_delta _ (left_no_delta _ Last Lost refl refl) }
  in_turn_needs control.TakeBase h = let small = value-most o m.cells m.control m.others l in record { value = omega arith; next = tt; delta = no_delta }
  in_turn_needs control.NextFront h = record { value = tt; next = tt; delta = no_delta }
  in_turn_needs control.ClearDead h = record { value = tt; next = tt; delta = no_delta }
  in_turn_needs control.AddBias h = let small = value-most o m.cells m.control m.others l in record { value = omega arith; next = tt; delta = no_delta }
  in_turn_needs control.OpenNext h = record { value = tt; next = open_there m.control.standing.phase refl h; delta = no_delta }
  in_turn_needs (control.StoreWord k v) h = record { value = tt; next = tt; delta = no_delta }
  in_turn_needs (control.Join k) h = record { value = tt; next = tt; delta = no_delta }
  in_turn_needs control.LookShared h = record { value = tt; next = tt; delta = no_delta }

  pub control_needs : (e : ControlEvent) → refusal (kept m) (Control e) ≡ None → ControlNeeds e
  control_needs e h = in_turn_needs e (no_reason (hinders_control (sizes_of m.cells) m.cells.shared.zero (joining (kept m) e) m.control.standing e) h WrongPhase)

-- what an enabled step of a pass finds
pub record PassRoom (s : State) (k : ℕ) (e : PassEvent) : Type 0 where
  pub place : k < length s.passes
  pub needs : (r : PassStanding) → pass_at s k ≡ Some r → PassNeeds s.cells r e
  pub releases : s.releases < 2 ^ 42

pub pass_room : (s : State) (k : ℕ) (e : PassEvent) → IsLawful s → refusal s (Pass k e) ≡ None → PassRoom s k e
pass_room s k e l h = let m : Snapshot = l.1 in let is : kept m ≡ s = l.2 in
    let at_kept : refusal (kept m) (Pass k e) ≡ None = subst (λ (s : State). refusal s (Pass k e) ≡ None) (sym is) h in
    let found = pass_needs l.0 m l.3 k e (pass_at (kept m) k) refl at_kept in
    subst (λ (s : State). PassRoom s k e) is record { place = found.0; needs = found.1; releases = few_releases l.0 m l.3 }

-- what an enabled step of the control finds
pub record ControlRoom (s : State) (e : ControlEvent) : Type 0 where
  pub value : controls.ValueFits e s.control.uncollected s.cells.shared.value
  pub next : controls.NextIsThere e s.control.phase (length s.cells.slots)
  pub delta : unsigned_abs (controls.closed_delta (controls.control_reply e s.control s.cells)) ≤ 2 ^ 32
  pub sum : unsigned_abs s.control.uncollected ≤ 2 ^ 32
  pub slot : next_slot s.control.phase ≤ 512
  pub kills : s.control.kills < 2 ^ 42
  pub front : s.cells.front < 2 ^ 42
  pub releases : s.releases < 2 ^ 42
  pub word : (k v : ℕ) → e ≡ control.StoreWord k v → k < length s.cells.words
  pub place : (k : ℕ) → e ≡ control.Join k → k < length s.passes

word_there : (s : State) (k v : ℕ) → refusal s (Control (control.StoreWord k v)) ≡ None → k < length s.cells.words
word_there s k v h = not_le (length s.cells.words) k (no_reason (hinders_control (sizes_of s.cells) s.cells.shared.zero None s.control (control.StoreWord k v)) h NoSuchWord)

there_if : (ps : List (Option PassStanding)) (k : ℕ) → is_none (get_or ps k None) ≡ false → k < length ps
there_if [] k h = cc
there_if (p ∷ ps) zero h = omega arith
there_if (p ∷ ps) (suc k) h = let r = there_if ps k h in omega arith

pass_there : (s : State) (k : ℕ) → refusal s (Control (control.Join k)) ≡ None → k < length s.passes
pass_there s k h = there_if s.passes k (no_reason (hinders_control (sizes_of s.cells) s.cells.shared.zero (pass_at s k) s.control (control.Join k)) h NoSuchActor)

pub control_room : (s : State) (e : ControlEvent) → IsLawful s → refusal s (Control e) ≡ None → ControlRoom s e
control_room s e l h = let m : Snapshot = l.1 in let is : kept m ≡ s = l.2 in
    let at_kept : refusal (kept m) (Control e) ≡ None = subst (λ (s : State). refusal s (Control e) ≡ None) (sym is) h in
    let few : m.control.standing.kills ≤ 2 ^ 40 = l.3.limit.kills in let sums = sum_few l.0 m l.3 in let needs = control_needs l.0 m l.3 e at_kept in
    subst (λ (s : State). ControlRoom s e) is record {
      value = needs.value;
      next = needs.next;
      delta = needs.delta;
      sum = omega arith;
      slot = next_few l.0 m l.3;
      kills = omega arith;
      front = few_fronts l.0 m l.3;
      releases = few_releases l.0 m l.3;
      word = λ k v e'. word_there (kept m) k v (subst (λ (e : ControlEvent). refusal (kept m) (Control e) ≡ None) e' at_kept);
      place = λ k e'. pass_there (kept m) k (subst (λ (e : ControlEvent). refusal (kept m) (Control e) ≡ None) e' at_kept);
    }

-- the deltas of a world are small
pub slot_small : (s : State) (i : ℕ) → IsLawful s → i < length s.cells.slots → IsDelta (delta (slot_at s.cells.slots i))
slot_small s i l there = let m : Snapshot = l.1 in let is : kept m ≡ s = l.2 in
    subst (λ (s : State). i < length s.cells.slots → IsDelta (delta (slot_at s.cells.slots i))) is (λ h. small-at m.cells.slots i l.3.limit.deltas h) there
