-- Each step of a pass writes what its event changes, and has the event's reply.
use Rattle.std.proofs.Common.{◌≡◌, ℕ, ◌+◌, ◌-◌, ◌%◌, ◌^◌, ◌<◌, ◌≤◌, Bool, nat_eq, List, [], ◌∷◌, get_or, set, refl, ap, sym, ◌∙◌, subst, arith}
use mathlib.Core.Bool.{not}
use prog.Atomic.{either}
use Rattle.atomic_table.specs.Seated.{TableId}
use Rattle.atomic_table.specs.Table.{Me, Allows}
use Rattle.percpu_words.specs.SharedWord.{SharedWord, spelling, parts, dead_mark, zero_mark}
use Rattle.percpu_words.proofs.SharedWordSteps.{parts_of_spelling, adding, subtracting}
use Rattle.percpu_core.specs.declared.pass_event.PassEvent.{PassEvent}
use Rattle.percpu_core.specs.declared.pass_event.PassEvent.TheVariants as events
use Rattle.percpu_core.specs.declared.pass_standing.Pending.TheVariants.{OneToUndo}
use Rattle.percpu_core.specs.declared.not_enabled.NotEnabled.TheVariants.{NoSuchWord, MidCall, WrongPhase, NothingHeld}
use Rattle.percpu_core.specs.declared.slot.Slot.{Slot}
use Rattle.percpu_core.specs.declared.reply.Reply.{Reply}
use Rattle.percpu_core.specs.declared.reply.Reply.TheVariants.{Given, Shared, Number}
use Rattle.percpu_core.specs.declared.view.PassView.{PassView}
use Rattle.percpu_core.specs.declared.view.View.TheVariants.{OfPass}
use Rattle.percpu_core.specs.Cells.{Cells, is_dead_alone}
use Rattle.percpu_core.specs.Views.{to_undo}
use Rattle.percpu_core.specs.PassSteps.{hinders_pass, shared_after_pass, slots_after_pass, pass_reply, minus, left_reply}
use Rattle.percpu_core.specs.Machine.{IsEnabled}
use Rattle.percpu_core.proofs.Enabled.{no_reason, not_lt, not_le, owes_undo}
use Rattle.percpu_gate.specs.declared.rule.GateKey.{GateKey}
use Rattle.percpu_gate.specs.declared.rule.SeatView.{SeatView}
use Rattle.percpu_gate.specs.Layout.{shared_place, front_place, word_place, Spell}
use Rattle.percpu_gate.specs.Rule.{Ruled, sizes_at, seated, Took, pass_after, origin, shared_number, front_number, guarded_number}
use Rattle.percpu_gate.specs.Seats.{GateFacts, gate_of, facts_of, pass_of, SitsAsPass, PassStep, tried, left, marked, put_of}
use Rattle.percpu_gate.proofs.Allowed.{PassAt, pass_allowed}
use Rattle.percpu_gate.proofs.Places.{shared_written, nothing_written}
use Rattle.percpu_gate.proofs.Known.{PassKnows, pass_knows, moment_knows}
use Rattle.percpu_gate.proofs.SharedWords as shared

pub minus_first : (j : ℕ) → 33 + j - 33 ≡ j
minus_first j = omega arith

-- a pass of the gate of this key sits at it
pub pass_at : (k : GateKey) (table table' : TableId) (me : Me (Unit {0}) SeatView) → SitsAsPass me → gate_of table me.0 ≡ facts_of (record { id = table'; key = k }) → PassAt k me
pass_at k table table' me sits own = sits ∙ (λ j. (record { slots = (own j).slots; start = (own j).start; words = (own j).words; view = OfPass (pass_of me.0.view); steps = me.0.steps; moves = me.0.moves }, []))

abbrev pub Free : GateKey → PassEvent → Me (Unit {0}) SeatView → Type 0
Free k e me = IsEnabled (hinders_pass (sizes_at k) (pass_of me.0.view).standing e)

module _ (k : GateKey) (slots id : ℕ) (me : Me (Unit {0}) SeatView) (sits : PassAt k me) where
  abbrev p : PassView
  p = pass_of me.0.view

  abbrev pub at_gate : TableId → GateFacts
  at_gate table = facts_of record { id = table; key = k }

  on_shared : (e : PassEvent) (f : ℕ → ℕ) → ((cells : Cells) → PassKnows cells p → f (spelling cells.shared) ≡ spelling (shared_after_pass e cells.shared)) → ((ss : List Slot) → slots_after_pass e ss ≡ ss) → Free k e me
      → Allows (Ruled k) slots id me shared_place f (Took (pass_after e) shared_number me)
  on_shared e f same no_slot free = pass_allowed k slots id shared_place e f shared_number me sits free (λ cells ws views l sees z. let q = pass_knows (origin k.start) cells views id p l sees in record {
    found = z.words.shared;
    written = subst (λ (ss : List Slot). Spell (set ws shared_place (f (get_or ws shared_place 0))) (record cells { shared = shared_after_pass e cells.shared; slots = ss })) (sym (no_slot cells.slots))
        (shared_written k ws cells z (shared_after_pass e cells.shared) (f (get_or ws shared_place 0)) (ap f z.words.shared ∙ same cells q));
  })

  pub adds_try : Free k events.AddTry me → Allows (Ruled k) slots id me shared_place (λ n. (n + 1) % 2 ^ 64) (Took (pass_after events.AddTry) shared_number me)
  adds_try = on_shared events.AddTry (λ n. (n + 1) % 2 ^ 64) (λ cells q. let small = q.small in adding cells.shared 1 (omega arith)) (λ ss. refl)

  pub adds_live : Free k events.AddLive me → Allows (Ruled k) slots id me shared_place (λ n. (n + 1) % 2 ^ 64) (Took (pass_after events.AddLive) shared_number me)
  adds_live = on_shared events.AddLive (λ n. (n + 1) % 2 ^ 64) (λ cells q. let small = q.small in adding cells.shared 1 (omega arith)) (λ ss. refl)

  pub adds_get : (n : ℕ) → n < 2 ^ 32 → Free k (events.AddGet n) me → Allows (Ruled k) slots id me shared_place (λ w. (w + n) % 2 ^ 64) (Took (pass_after (events.AddGet n)) shared_number me)
  adds_get n fits = on_shared (events.AddGet n) (λ w. (w + n) % 2 ^ 64) (λ cells q. let small = q.small in adding cells.shared n (omega arith)) (λ ss. refl)

  pub has_it : (n : ℕ) → Free k (events.Sub n) me → n ≤ p.standing.held
  has_it n free = not_lt p.standing.held n (no_reason (hinders_pass (sizes_at k) p.standing (events.Sub n)) free NothingHeld)

  pub owes_one : Free k events.Undo me → p.standing.pending ≡ OneToUndo
  owes_one free = let no = no_reason (hinders_pass (sizes_at k) p.standing events.Undo) free in owes_undo p.standing.pending (no MidCall) (no WrongPhase)

  pub subtracts : (n : ℕ) → Free k (events.Sub n) me → Allows (Ruled k) slots id me shared_place (λ w. (w + (2 ^ 64 - n)) % 2 ^ 64) (Took (pass_after (events.Sub n)) shared_number me)
  subtracts n free = on_shared (events.Sub n) (λ w. (w + (2 ^ 64 - n)) % 2 ^ 64) (λ cells q. let small = q.small in let holds = q.held in let has = has_it n free in
      subtracting cells.shared n (omega arith) (omega arith)) (λ ss. refl) free

  pub undoes : Free k events.Undo me → Allows (Ruled k) slots id me shared_place (λ w. (w + (2 ^ 64 - 1)) % 2 ^ 64) (Took (pass_after events.Undo) shared_number me)
  undoes free = on_shared events.Undo (λ w. (w + (2 ^ 64 - 1)) % 2 ^ 64) (λ cells q. let small = q.small in let undo = q.undo in let one : to_undo p.standing.pending ≡ 1 = ap to_undo (owes_one free) in
      subtracting cells.shared 1 (omega arith) (omega arith)) (λ ss. refl) free

  pub marks : Free k events.Mark me → Allows (Ruled k) slots id me shared_place (λ n. either (nat_eq n dead_mark) (dead_mark + zero_mark) n) (Took (pass_after events.Mark) shared_number me)
  marks = on_shared events.Mark (λ n. either (nat_eq n dead_mark) (dead_mark + zero_mark) n) (λ cells q. let small = q.small in shared.marking cells.shared (omega arith)) (λ ss. refl)

  pub looks : Free k events.LookShared me → Allows (Ruled k) slots id me shared_place (λ n. n) (Took (pass_after events.LookShared) shared_number me)
  looks = on_shared events.LookShared (λ n. n) (λ cells q. refl) (λ ss. refl)

  pub loads_front : Free k events.LoadFront me → Allows (Ruled k) slots id me front_place (λ n. n) (Took (pass_after events.LoadFront) front_number me)
  loads_front free = pass_allowed k slots id front_place events.LoadFront (λ n. n) front_number me sits free (λ cells ws views l sees z. record { found = z.words.front; written = nothing_written k ws cells z front_place })

  pub loads_word : (j : ℕ) → Free k (events.LoadWord j) me → Allows (Ruled k) slots id me (word_place j) (λ n. n) (Took (pass_after (events.LoadWord j)) (guarded_number j) me)
  loads_word j free = pass_allowed k slots id (word_place j) (events.LoadWord j) (λ n. n) (guarded_number j) me sits free (λ cells ws views l sees z.
      let there = not_le k.count j (no_reason (hinders_pass (sizes_at k) p.standing (events.LoadWord j)) free NoSuchWord) in let sizes = z.guarded in
      record { found = z.words.words j (omega arith); written = nothing_written k ws cells z (word_place j) })

  abbrev Knows : Cells → Type 0
  Knows cells = PassKnows cells p

  -- a step taken at the gate, which comes to the pass's steps
  abbrev pub Stepped : TableId → PassEvent → Me (Unit {0}) SeatView → Reply → Type 0
  Stepped table e new reply = PassStep (at_gate table) e p (pass_of new.0.view) reply × (new.0.steps ≡ (e, reply) ∷ me.0.steps)

  pub took : (table : TableId) (e : PassEvent) (word : Cells → ℕ) (found : ℕ) (new : Me (Unit {0}) SeatView) (reply : Reply) → Took (pass_after e) word me found new
      → ((cells : Cells) → Knows cells → found ≡ word cells → reply ≡ pass_reply e cells) → Stepped table e new reply
  took table e word found new reply t answer =
      let own : Took (pass_after e) word (seated k (OfPass p) me.0.steps me.0.moves, []) found new = subst (λ (m : Me (Unit {0}) SeatView). Took (pass_after e) word m found new) sits t in
      let answered = answer own.moment.cells (moment_knows p own.moment) own.word_found in (
        record {
          moment = own.moment;
          learned = ap (λ (m : Me (Unit {0}) SeatView). pass_of m.0.view) own.learned;
          answered = answered;
        },
        ap (λ (m : Me (Unit {0}) SeatView). m.0.steps) own.learned ∙ ap (λ (r : Reply). (e, r) ∷ me.0.steps) (sym answered),
      )

  exact : (cells : Cells) → Knows cells → (found : ℕ) → found ≡ shared_number cells → parts found ≡ cells.shared
  exact cells q found is = let small = q.small in ap parts is ∙ parts_of_spelling cells.shared (omega arith)

  module _ (table : TableId) (found : ℕ) (new : Me (Unit {0}) SeatView) where
    pub tried_as : Took (pass_after events.AddTry) shared_number me found new → Stepped table events.AddTry new (tried (not (parts found).zero))
    tried_as t = took table events.AddTry shared_number found new _ t (λ cells q is. ap (λ (s : SharedWord). tried (not s.zero)) (exact cells q found is) ∙ shared.try_answer cells.shared.zero)

    pub tried_live_as : Took (pass_after events.AddLive) shared_number me found new → Stepped table events.AddLive new (tried (not (parts found).dead))
    tried_live_as t = took table events.AddLive shared_number found new _ t (λ cells q is. ap (λ (s : SharedWord). tried (not s.dead)) (exact cells q found is) ∙ shared.try_answer cells.shared.dead)

    left_as : (e : PassEvent) (cells : Cells) (n : ℕ) → Knows cells → n ≤ cells.shared.value → found ≡ shared_number cells
        → left (nat_eq ((found + (2 ^ 64 - n)) % 2 ^ 64) dead_mark) ≡ left_reply (minus n cells.shared)
    left_as e cells n q has is = let small = q.small in
        ap (λ (w : ℕ). left (nat_eq w dead_mark)) (ap (λ (w : ℕ). (w + (2 ^ 64 - n)) % 2 ^ 64) is ∙ subtracting cells.shared n has (omega arith))
        ∙ ap left (shared.alone_is (minus n cells.shared) (omega arith)) ∙ shared.left_answer (is_dead_alone (minus n cells.shared))

    pub subtracted_as : (n : ℕ) → Free k (events.Sub n) me → Took (pass_after (events.Sub n)) shared_number me found new
        → Stepped table (events.Sub n) new (left (nat_eq ((found + (2 ^ 64 - n)) % 2 ^ 64) dead_mark))
    subtracted_as n free t = took table (events.Sub n) shared_number found new _ t (λ cells q is. let has = has_it n free in let held = q.held in left_as (events.Sub n) cells n q (omega arith) is)

    pub undone_as : Free k events.Undo me → Took (pass_after events.Undo) shared_number me found new
        → Stepped table events.Undo new (left (nat_eq ((found + (2 ^ 64 - 1)) % 2 ^ 64) dead_mark))
    undone_as free t = took table events.Undo shared_number found new _ t (λ cells q is. let undo = q.undo in let one : to_undo p.standing.pending ≡ 1 = ap to_undo (owes_one free) in
        left_as events.Undo cells 1 q (omega arith) is)

    pub marked_as : Took (pass_after events.Mark) shared_number me found new → Stepped table events.Mark new (marked (put_of (nat_eq found dead_mark)))
    marked_as t = took table events.Mark shared_number found new _ t (λ cells q is. let small = q.small in
        ap (λ (b : Bool). marked (put_of b)) (ap (λ (n : ℕ). nat_eq n dead_mark) is ∙ shared.alone_is cells.shared (omega arith)) ∙ shared.mark_answer (is_dead_alone cells.shared))

    pub got_as : (n : ℕ) → Took (pass_after (events.AddGet n)) shared_number me found new → Stepped table (events.AddGet n) new Given
    got_as n t = took table (events.AddGet n) shared_number found new _ t (λ cells q is. refl)

    pub looked_as : Took (pass_after events.LookShared) shared_number me found new → Stepped table events.LookShared new (Shared found)
    looked_as t = took table events.LookShared shared_number found new _ t (λ cells q is. ap Shared is)

    pub front_as : Took (pass_after events.LoadFront) front_number me found new → Stepped table events.LoadFront new (Number found)
    front_as t = took table events.LoadFront front_number found new _ t (λ cells q is. ap Number is)

    pub word_as : (j : ℕ) → Took (pass_after (events.LoadWord j)) (guarded_number j) me found new → Stepped table (events.LoadWord j) new (Number found)
    word_as j t = took table (events.LoadWord j) (guarded_number j) found new _ t (λ cells q is. ap Number is)
