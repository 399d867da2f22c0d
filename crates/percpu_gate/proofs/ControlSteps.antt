-- What the control's steps share: when each is allowed, what it returns, and which seat takes it.
use Rattle.std.proofs.Common.{◌≡◌, ℕ, ◌+◌, true, [], get_or, set, length, None, ap, sym, ◌∙◌, subst}
use Rattle.atomic_table.specs.Seated.{TableId}
use Rattle.atomic_table.specs.Table.{Me, Allows}
use Rattle.percpu_words.specs.SharedWord.{spelling}
use Rattle.percpu_core.specs.declared.control_event.ControlEvent.{ControlEvent}
use Rattle.percpu_core.specs.declared.control_event.ControlEvent.TheVariants as events
use Rattle.percpu_core.specs.declared.control_standing.ControlStanding.{ControlStanding}
use Rattle.percpu_core.specs.declared.reply.Reply.{Reply}
use Rattle.percpu_core.specs.declared.reply.Reply.TheVariants.{Done}
use Rattle.percpu_core.specs.declared.view.ControlView.{ControlView}
use Rattle.percpu_core.specs.declared.view.View.TheVariants.{OfControl}
use Rattle.percpu_core.specs.Cells.{Cells}
use Rattle.percpu_core.specs.ControlSteps.{hinders_control, shared_after_control, cells_after_control, control_reply}
use Rattle.percpu_core.specs.Machine.{IsEnabled}
use Rattle.percpu_gate.specs.declared.rule.GateKey.{GateKey}
use Rattle.percpu_gate.specs.declared.rule.SeatView.{SeatView}
use Rattle.percpu_gate.specs.Layout.{shared_place, front_place, Spell}
use Rattle.percpu_gate.specs.Rule.{Ruled, sizes_at, seated, Took, moves_after, control_after, shared_number, next_front_number}
use Rattle.percpu_gate.specs.Seats.{GateFacts, gate_of, facts_of, control_of, SitsAsControl, ControlStep}
use Rattle.percpu_gate.proofs.Allowed.{ControlAt, Enabled, control_allowed}
use Rattle.percpu_gate.proofs.Places.{shared_written, front_written}
use Rattle.percpu_gate.proofs.Known.{ControlKnows, moment_known}

-- the control of the gate of this key sits at it
pub control_at : (k : GateKey) (table table' : TableId) (me : Me (Unit {0}) SeatView) → SitsAsControl me → gate_of table me.0 ≡ facts_of (record { id = table'; key = k }) → ControlAt k me
control_at k table table' me sits own = sits ∙ (λ j. (record { slots = (own j).slots; start = (own j).start; words = (own j).words; view = OfControl (control_of me.0.view); steps = me.0.steps; moves = me.0.moves }, []))

-- enabled, whatever of ZERO
abbrev pub Free : GateKey → ControlEvent → Me (Unit {0}) SeatView → Type 0
Free k e me = IsEnabled (hinders_control (sizes_at k) true None (control_of me.0.view).standing e)

-- the gate of this key, at this table
abbrev pub at_gate : GateKey → TableId → GateFacts
at_gate k table = facts_of record { id = table; key = k }

module _ (k : GateKey) (slots id : ℕ) (me : Me (Unit {0}) SeatView) (sits : ControlAt k me) where
  abbrev c : ControlView
  c = control_of me.0.view

  pub on_shared : (e : ControlEvent) → ((j : ℕ) → e ≡ events.Join j → ⊥) → (f : ℕ → ℕ)
      → ((cells : Cells) → ControlKnows cells c → Enabled k e c cells × (f (spelling cells.shared) ≡ spelling (shared_after_control e c.standing.uncollected cells.shared))
      × (cells_after_control e c.standing cells ≡ record cells { shared = shared_after_control e c.standing.uncollected cells.shared })
      × (length (cells_after_control e c.standing cells).words ≡ length cells.words))
      → Allows (Ruled k) slots id me shared_place f (Took (control_after e) shared_number me)
  on_shared e no_join f same = control_allowed k slots id shared_place e no_join f (λ n. n) shared_number me sits (λ cells ws q z. let s = same cells q in (
    s.0,
    record {
      found = z.words.shared;
      written = subst (λ (x : Cells). Spell (set ws shared_place (f (get_or ws shared_place 0))) x) (sym s.2)
          (shared_written k ws cells z (shared_after_control e c.standing.uncollected cells.shared) (f (get_or ws shared_place 0)) (ap f z.words.shared ∙ s.1));
      same_size = s.3;
    },
  ))

  pub stores_front : (e : ControlEvent) → ((j : ℕ) → e ≡ events.Join j → ⊥) → (n : ℕ) → n ≡ c.front + 1
      → ((cells : Cells) → Enabled k e c cells × (cells_after_control e c.standing cells ≡ record cells { front = cells.front + 1 })
      × (length (cells_after_control e c.standing cells).words ≡ length cells.words))
      → Allows (Ruled k) slots id me front_place (λ _. n) (λ _. Took (control_after e) next_front_number me n)
  stores_front e no_join n next same = control_allowed k slots id front_place e no_join (λ _. n) (λ _. n) next_front_number me sits (λ cells ws q z.
      let s = same cells in let is : n ≡ cells.front + 1 = next ∙ ap (λ (x : ℕ). x + 1) q.front in (
        s.0,
        record {
          found = is;
          written = subst (λ (x : Cells). Spell (set ws front_place n) x) (ap (λ (m : ℕ). record cells { front = m }) is ∙ sym s.1) (front_written k ws cells z n);
          same_size = s.2;
        },
      ))

  -- a step taken at the gate, which is counted if it closes or opens a slot
  abbrev pub Stepped : TableId → ControlEvent → Me (Unit {0}) SeatView → Reply → Type 0
  Stepped table e new reply = ControlStep (at_gate k table) e c (control_of new.0.view) reply × (new.0.moves ≡ moves_after e me.0.moves)

  pub took : (table : TableId) (e : ControlEvent) (word : Cells → ℕ) (found : ℕ) (new : Me (Unit {0}) SeatView) (reply : Reply) → Took (control_after e) word me found new
      → ((cells : Cells) → ControlKnows cells c → found ≡ word cells → reply ≡ control_reply e c.standing cells) → Stepped table e new reply
  took table e word found new reply t answer =
      let own : Took (control_after e) word (seated k (OfControl c) me.0.steps me.0.moves, []) found new = subst (λ (m : Me (Unit {0}) SeatView). Took (control_after e) word m found new) sits t in (
        record {
          moment = own.moment;
          learned = ap (λ (m : Me (Unit {0}) SeatView). control_of m.0.view) own.learned;
          answered = answer own.moment.cells (moment_known c own.moment) own.word_found;
        },
        ap (λ (m : Me (Unit {0}) SeatView). m.0.moves) own.learned,
      )

  module _ (table : TableId) (found : ℕ) (new : Me (Unit {0}) SeatView) where
    pub done_as : (e : ControlEvent) (word : Cells → ℕ) → ((s : ControlStanding) (cells : Cells) → Done ≡ control_reply e s cells) → Took (control_after e) word me found new → Stepped table e new Done
    done_as e word silent t = took table e word found new Done t (λ cells q is. silent c.standing cells)
