-- Each step of a pass on a slot writes what its event changes, and has the event's reply.
use Rattle.std.proofs.Common.{◌≡◌, ℕ, zero, suc, ◌∷◌, ◌-◌, ◌<◌, ◌==◌, ◌||◌, Bool, true, false, not, ◌&&◌, if◌then◌else◌, nat_eq, List, [], get_or, set, length, Option, Some, None, refl, ap, sym, ◌∙◌, subst, arith}
use Rattle.std.specs.Prelude.{ℤ, pos, ◌+ℤ◌, ◌-ℤ◌, ◌↔◌}
use Rattle.std.proofs.lemmas.Int.{ints}
use Rattle.std.proofs.lemmas.Bool.Decides.{nat_tests}
use prog.Atomic.{either}
use Rattle.atomic_table.specs.Seated.{TableId}
use Rattle.atomic_table.specs.Table.{Me, Allows}
use Rattle.percpu_words.specs.SlotWord.{IsDelta, delta_spelling, Spells}
use Rattle.percpu_words.proofs.SlotSpellings.{spelling_is_the_sum}
use Rattle.percpu_core.specs.declared.pass_event.PassEvent.{PassEvent}
use Rattle.percpu_core.specs.declared.pass_event.PassEvent.TheVariants as events
use Rattle.percpu_core.specs.declared.not_enabled.NotEnabled.TheVariants.{NoSuchSlot, BadAmount}
use Rattle.percpu_core.specs.declared.slot.Slot.{Slot}
use Rattle.percpu_core.specs.declared.slot.Slot.TheVariants.{Closed, Open}
use Rattle.percpu_core.specs.declared.view.PassView.{PassView}
use Rattle.percpu_core.specs.Cells.{Cells, delta, slot_at, slot_spelling, is_open_with}
use Rattle.percpu_core.specs.PassSteps.{hinders_pass, look_reply, exchange_reply, is_delta}
use Rattle.percpu_core.specs.declared.reply.Reply.TheVariants.{Won, Lost}
use Rattle.percpu_core.specs.LimitLaw.{AreSmall}
use Rattle.percpu_core.proofs.SlotLists.{small-at}
use Rattle.percpu_core.proofs.SlotNumbers.{expected_word, open_as_spelled}
use Rattle.percpu_core.proofs.Enabled.{no_reason, not_le}
use Rattle.percpu_gate.specs.declared.rule.GateKey.{GateKey}
use Rattle.percpu_gate.specs.declared.rule.SeatView.{SeatView}
use Rattle.percpu_gate.specs.Layout.{slot_place, slot_of, Spell}
use Rattle.percpu_gate.specs.Rule.{Spelled, Ruled, sizes_at, origin, Took, pass_after, slot_number, delta_told}
use Rattle.percpu_gate.specs.Seats.{pass_of, looked, exchanged}
use Rattle.percpu_gate.proofs.Allowed.{PassAt, pass_allowed}
use Rattle.percpu_gate.proofs.Known.{PassKnows, pass_knows}
use Rattle.percpu_gate.proofs.Places.{slot_written, nothing_written}
use Rattle.percpu_gate.proofs.PassSteps.{Free, Stepped, took}

pub slot_of_place : (i : ℕ) → slot_of (slot_place i) ≡ i
slot_of_place i = omega arith

told_is : (d : ℤ) → IsDelta d → delta_told (delta_spelling d) ≡ d
told_is d h = let sum = (spelling_is_the_sum d h).0 in omega (arith, ints)

more_told : (d : ℤ) (n : ℕ) → IsDelta d → IsDelta (d +ℤ pos n) → delta_spelling (d +ℤ pos n) - delta_spelling d ≡ n
more_told d n h g = let from = (spelling_is_the_sum d h).0 in let to = (spelling_is_the_sum (d +ℤ pos n) g).0 in omega (arith, ints)

fewer_told : (d : ℤ) (n : ℕ) → IsDelta d → IsDelta (d -ℤ pos n) → delta_spelling d - delta_spelling (d -ℤ pos n) ≡ n
fewer_told d n h g = let from = (spelling_is_the_sum d h).0 in let to = (spelling_is_the_sum (d -ℤ pos n) g).0 in omega (arith, ints)

-- both deltas of an exchange that is no bad amount are within the limit
both_deltas : (b : Bool) (d e : ℤ) → (b || not (is_delta d && is_delta e)) ≡ false → IsDelta d × IsDelta e
both_deltas true d e h = cc
both_deltas false d e h = (within d (and_left (is_delta d) (is_delta e) h), within e (and_right (is_delta d) (is_delta e) h))
  where
    and_left : (a b : Bool) → not (a && b) ≡ false → a ≡ true
    and_left true b h = refl
    and_left false b h = cc

    and_right : (a b : Bool) → not (a && b) ≡ false → b ≡ true
    and_right true true h = refl
    and_right true false h = cc
    and_right false b h = cc

    within : (e : ℤ) → is_delta e ≡ true → IsDelta e
    within e h = grind (arith, nat_tests)

-- the reply to a look, by the delta that the word spells
look_answer : (t : Slot) (r : Option ℤ) → IsDelta (delta t) → ((d : ℤ) → (r ≡ Some d) ↔ Spells (slot_spelling t) d) → looked r ≡ look_reply t
look_answer Closed None h told = refl
look_answer (Open d) None h told = let is : None ≡ Some d = (told d).1 (h, refl) in cc
look_answer t (Some d) h told = ap look_reply (sym (open_as_spelled t d h ((told d).0 refl)))

-- a slot that isn't there counts nothing
pub small_anywhere : (ss : List Slot) (i : ℕ) → AreSmall ss → IsDelta (delta (slot_at ss i))
small_anywhere [] i h = omega arith
small_anywhere (x ∷ xs) zero h = h.0
small_anywhere (x ∷ xs) (suc i) h = small_anywhere xs i h.1

exchange_answer : (b : Bool) → exchanged b ≡ (if b then Won else Lost)
exchange_answer true = refl
exchange_answer false = refl

module _ (k : GateKey) (slots id : ℕ) (me : Me (Unit {0}) SeatView) (sits : PassAt k me) where
  abbrev p : PassView
  p = pass_of me.0.view

  slot_there : (s : ℕ) (e : PassEvent) → (hinders_pass (sizes_at k) p.standing e NoSuchSlot ≡ false → s < k.slots) → Free k e me → s < k.slots
  slot_there s e is free = is (no_reason (hinders_pass (sizes_at k) p.standing e) free NoSuchSlot)

  pub looks_at_slot : (s : ℕ) → Free k (events.Look s) me → Allows (Ruled k) slots id me (slot_place s) (λ n. n) (Took (pass_after (events.Look s)) (slot_number s) me)
  looks_at_slot s free = pass_allowed k slots id (slot_place s) (events.Look s) (λ n. n) (slot_number s) me sits free (λ cells ws views l sees z.
      let there = slot_there s (events.Look s) (not_le k.slots s) free in let sizes = z.slots in
      record { found = z.words.slots s (omega arith); written = nothing_written k ws cells z (slot_place s) })

  -- an exchange writes the other delta if it is won, and nothing if it is lost
  module _ (s : ℕ) (d e : ℤ) (small : IsDelta d) where
    by_win : (cells : Cells) (ws : List ℕ) → Spelled k ws cells → s < length cells.slots → (b : Bool)
        → Spell (set ws (slot_place s) (either b (delta_spelling e) (get_or ws (slot_place s) 0))) (record cells { slots = if b then set cells.slots s (Open e) else cells.slots })
    by_win cells ws z there true = slot_written k ws cells z s (Open e) (delta_spelling e) there refl
    by_win cells ws z there false = nothing_written k ws cells z (slot_place s)

    exchange_written : (cells : Cells) (ws : List ℕ) → Spelled k ws cells → PassKnows cells p → s < length cells.slots
        → Spell (set ws (slot_place s) (either (nat_eq (get_or ws (slot_place s) 0) (delta_spelling d)) (delta_spelling e) (get_or ws (slot_place s) 0)))
        (record cells { slots = if is_open_with d (slot_at cells.slots s) then set cells.slots s (Open e) else cells.slots })
    exchange_written cells ws z q there = subst (λ (b : Bool). Spell (set ws (slot_place s) (either b (delta_spelling e) (get_or ws (slot_place s) 0)))
        (record cells { slots = if is_open_with d (slot_at cells.slots s) then set cells.slots s (Open e) else cells.slots })) (sym same) (by_win cells ws z there (is_open_with d (slot_at cells.slots s)))
      where
        same : nat_eq (get_or ws (slot_place s) 0) (delta_spelling d) ≡ is_open_with d (slot_at cells.slots s)
        same = ap (λ (w : ℕ). nat_eq w (delta_spelling d)) (z.words.slots s there) ∙ expected_word (slot_at cells.slots s) d (small-at cells.slots s q.deltas there) small

  takes : (s : ℕ) (d : ℤ) (n : ℕ) → Free k (events.Take s d n) me
      → Allows (Ruled k) slots id me (slot_place s) (λ w. either (nat_eq w (delta_spelling d)) (delta_spelling (d +ℤ pos n)) w) (Took (pass_after (events.Take s d n)) (slot_number s) me)
  takes s d n free = pass_allowed k slots id (slot_place s) (events.Take s d n) (λ w. either (nat_eq w (delta_spelling d)) (delta_spelling (d +ℤ pos n)) w) (slot_number s) me sits free (λ cells ws views l sees z.
      let small = both_deltas (n == 0) d (d +ℤ pos n) (no_reason (hinders_pass (sizes_at k) p.standing (events.Take s d n)) free BadAmount) in
      let below = slot_there s (events.Take s d n) (not_le k.slots s) free in let sizes = z.slots in let there : s < length cells.slots = omega arith in
      let q = pass_knows (origin k.start) cells views id p l sees in
      record { found = z.words.slots s there; written = exchange_written s d (d +ℤ pos n) small.0 cells ws z q there })

  gives : (s : ℕ) (d : ℤ) (n : ℕ) → Free k (events.Give s d n) me
      → Allows (Ruled k) slots id me (slot_place s) (λ w. either (nat_eq w (delta_spelling d)) (delta_spelling (d -ℤ pos n)) w) (Took (pass_after (events.Give s d n)) (slot_number s) me)
  gives s d n free = pass_allowed k slots id (slot_place s) (events.Give s d n) (λ w. either (nat_eq w (delta_spelling d)) (delta_spelling (d -ℤ pos n)) w) (slot_number s) me sits free (λ cells ws views l sees z.
      let small = both_deltas (n == 0) d (d -ℤ pos n) (no_reason (hinders_pass (sizes_at k) p.standing (events.Give s d n)) free BadAmount) in
      let below = slot_there s (events.Give s d n) (not_le k.slots s) free in let sizes = z.slots in let there : s < length cells.slots = omega arith in
      let q = pass_knows (origin k.start) cells views id p l sees in
      record { found = z.words.slots s there; written = exchange_written s d (d -ℤ pos n) small.0 cells ws z q there })

  -- the same, as the words of the exchange give the event
  abbrev taken_event : ℕ → ℕ → ℕ → PassEvent
  taken_event s first second = events.Take (slot_of (slot_place s)) (delta_told first) (second - first)

  abbrev given_event : ℕ → ℕ → ℕ → PassEvent
  given_event s first second = events.Give (slot_of (slot_place s)) (delta_told first) (first - second)

  same_take : (s : ℕ) (d : ℤ) (n : ℕ) → Free k (events.Take s d n) me → events.Take s d n ≡ taken_event s (delta_spelling d) (delta_spelling (d +ℤ pos n))
  same_take s d n free = let small = both_deltas (n == 0) d (d +ℤ pos n) (no_reason (hinders_pass (sizes_at k) p.standing (events.Take s d n)) free BadAmount) in
      λ j. events.Take (sym (slot_of_place s) j) (sym (told_is d small.0) j) (sym (more_told d n small.0 small.1) j)

  same_give : (s : ℕ) (d : ℤ) (n : ℕ) → Free k (events.Give s d n) me → events.Give s d n ≡ given_event s (delta_spelling d) (delta_spelling (d -ℤ pos n))
  same_give s d n free = let small = both_deltas (n == 0) d (d -ℤ pos n) (no_reason (hinders_pass (sizes_at k) p.standing (events.Give s d n)) free BadAmount) in
      λ j. events.Give (sym (slot_of_place s) j) (sym (told_is d small.0) j) (sym (fewer_told d n small.0 small.1) j)

  abbrev TakesAs : ℕ → ℕ → ℕ → Type 0
  TakesAs s first second = Allows (Ruled k) slots id me (slot_place s) (λ w. either (nat_eq w first) second w) (Took (pass_after (taken_event s first second)) (slot_number (slot_of (slot_place s))) me)

  abbrev GivesAs : ℕ → ℕ → ℕ → Type 0
  GivesAs s first second = Allows (Ruled k) slots id me (slot_place s) (λ w. either (nat_eq w first) second w) (Took (pass_after (given_event s first second)) (slot_number (slot_of (slot_place s))) me)

  pub takes_on_slot : (s : ℕ) (d : ℤ) (n first second : ℕ) → first ≡ delta_spelling d → second ≡ delta_spelling (d +ℤ pos n) → Free k (events.Take s d n) me → TakesAs s first second
  takes_on_slot s d n first second is to free = subst (λ (x : ℕ). TakesAs s x second) (sym is) (subst (λ (y : ℕ). TakesAs s (delta_spelling d) y) (sym to)
      (subst (λ (e : PassEvent). Allows (Ruled k) slots id me (slot_place s) (λ w. either (nat_eq w (delta_spelling d)) (delta_spelling (d +ℤ pos n)) w) (Took (pass_after e) (slot_number (slot_of (slot_place s))) me))
      (same_take s d n free)
      (subst (λ (i : ℕ). Allows (Ruled k) slots id me (slot_place s) (λ w. either (nat_eq w (delta_spelling d)) (delta_spelling (d +ℤ pos n)) w) (Took (pass_after (events.Take s d n)) (slot_number i) me))
      (sym (slot_of_place s)) (takes s d n free))))

  pub gives_on_slot : (s : ℕ) (d : ℤ) (n first second : ℕ) → first ≡ delta_spelling d → second ≡ delta_spelling (d -ℤ pos n) → Free k (events.Give s d n) me → GivesAs s first second
  gives_on_slot s d n first second is to free = subst (λ (x : ℕ). GivesAs s x second) (sym is) (subst (λ (y : ℕ). GivesAs s (delta_spelling d) y) (sym to)
      (subst (λ (e : PassEvent). Allows (Ruled k) slots id me (slot_place s) (λ w. either (nat_eq w (delta_spelling d)) (delta_spelling (d -ℤ pos n)) w) (Took (pass_after e) (slot_number (slot_of (slot_place s))) me))
      (same_give s d n free)
      (subst (λ (i : ℕ). Allows (Ruled k) slots id me (slot_place s) (λ w. either (nat_eq w (delta_spelling d)) (delta_spelling (d -ℤ pos n)) w) (Took (pass_after (events.Give s d n)) (slot_number i) me))
      (sym (slot_of_place s)) (gives s d n free))))

  module _ (table : TableId) (found : ℕ) (new : Me (Unit {0}) SeatView) where
    pub slot_looked_as : (s : ℕ) (r : Option ℤ) → ((d : ℤ) → (r ≡ Some d) ↔ Spells found d) → Free k (events.Look s) me → Took (pass_after (events.Look s)) (slot_number s) me found new
        → Stepped k slots id me sits table (events.Look s) new (looked r)
    slot_looked_as s r told free t = took k slots id me sits table (events.Look s) (slot_number s) found new (looked r) t (λ cells q is.
        look_answer (slot_at cells.slots s) r (always_small cells q s) (subst (λ (w : ℕ). (d : ℤ) → (r ≡ Some d) ↔ Spells w d) is told))
      where
        always_small : (cells : Cells) → PassKnows cells p → (s : ℕ) → IsDelta (delta (slot_at cells.slots s))
        always_small cells q s = small_anywhere cells.slots s q.deltas

    -- an exchange is won if the word was the expected one
    won_as : (s : ℕ) (d : ℤ) (first : ℕ) → first ≡ delta_spelling d → IsDelta d → (cells : Cells) → PassKnows cells p → found ≡ slot_number s cells
        → exchanged (nat_eq found first) ≡ exchange_reply d (slot_at cells.slots s)
    won_as s d first is small cells q found_is = ap exchanged ((λ j. nat_eq (found_is j) (is j)) ∙ expected_word (slot_at cells.slots s) d (small_anywhere cells.slots s q.deltas) small)
        ∙ exchange_answer (is_open_with d (slot_at cells.slots s))

    pub taken_as : (s : ℕ) (d : ℤ) (n first second : ℕ) → first ≡ delta_spelling d → second ≡ delta_spelling (d +ℤ pos n) → Free k (events.Take s d n) me
        → Took (pass_after (taken_event s first second)) (slot_number (slot_of (slot_place s))) me found new
        → Stepped k slots id me sits table (events.Take s d n) new (exchanged (nat_eq found first))
    taken_as s d n first second is to free t = took k slots id me sits table (events.Take s d n) (slot_number s) found new _ own (λ cells q found_is.
        won_as s d first is (both_deltas (n == 0) d (d +ℤ pos n) (no_reason (hinders_pass (sizes_at k) p.standing (events.Take s d n)) free BadAmount)).0 cells q found_is)
      where
        event : taken_event s first second ≡ events.Take s d n
        event = (λ j. taken_event s (is j) (to j)) ∙ sym (same_take s d n free)

        own : Took (pass_after (events.Take s d n)) (slot_number s) me found new
        own = subst (λ (i : ℕ). Took (pass_after (events.Take s d n)) (slot_number i) me found new) (slot_of_place s)
            (subst (λ (e : PassEvent). Took (pass_after e) (slot_number (slot_of (slot_place s))) me found new) event t)

    pub given_as : (s : ℕ) (d : ℤ) (n first second : ℕ) → first ≡ delta_spelling d → second ≡ delta_spelling (d -ℤ pos n) → Free k (events.Give s d n) me
        → Took (pass_after (given_event s first second)) (slot_number (slot_of (slot_place s))) me found new
        → Stepped k slots id me sits table (events.Give s d n) new (exchanged (nat_eq found first))
    given_as s d n first second is to free t = took k slots id me sits table (events.Give s d n) (slot_number s) found new _ own (λ cells q found_is.
        won_as s d first is (both_deltas (n == 0) d (d -ℤ pos n) (no_reason (hinders_pass (sizes_at k) p.standing (events.Give s d n)) free BadAmount)).0 cells q found_is)
      where
        event : given_event s first second ≡ events.Give s d n
        event = (λ j. given_event s (is j) (to j)) ∙ sym (same_give s d n free)

        own : Took (pass_after (events.Give s d n)) (slot_number s) me found new
        own = subst (λ (i : ℕ). Took (pass_after (events.Give s d n)) (slot_number i) me found new) (slot_of_place s)
            (subst (λ (e : PassEvent). Took (pass_after e) (slot_number (slot_of (slot_place s))) me found new) event t)
