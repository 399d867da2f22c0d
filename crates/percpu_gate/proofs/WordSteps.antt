-- The control's look at the marks, and its store of a guarded word.
use Rattle.std.proofs.Common.{◌≡◌, ℕ, Bool, true, None, find, refl, ap, ◌∙◌, arith}
use Rattle.std.proofs.Math.ListN.{length-set}
use Rattle.atomic_table.specs.Seated.{TableId}
use Rattle.atomic_table.specs.Table.{Me, Allows}
use Rattle.percpu_core.specs.declared.control_event.ControlEvent.TheVariants as events
use Rattle.percpu_core.specs.declared.not_enabled.NotEnabled.TheVariants.{NoSuchWord}
use Rattle.percpu_core.specs.declared.reply.Reply.TheVariants.{Shared}
use Rattle.percpu_core.specs.declared.view.ControlView.{ControlView}
use Rattle.percpu_core.specs.ControlSteps.{hinders_control}
use Rattle.percpu_core.specs.Machine.{order}
use Rattle.percpu_core.proofs.Enabled.{no_reason, not_le}
use Rattle.percpu_gate.specs.declared.rule.GateKey.{GateKey}
use Rattle.percpu_gate.specs.declared.rule.SeatView.{SeatView}
use Rattle.percpu_gate.specs.Layout.{shared_place, word_place}
use Rattle.percpu_gate.specs.Rule.{Ruled, sizes_at, Took, control_after, shared_number}
use Rattle.percpu_gate.specs.Seats.{control_of}
use Rattle.percpu_gate.proofs.Allowed.{ControlAt, control_allowed}
use Rattle.percpu_gate.proofs.Places.{word_written}
use Rattle.percpu_gate.proofs.ControlSteps.{Free, Stepped, on_shared, took}

module _ (k : GateKey) (slots id : ℕ) (me : Me (Unit {0}) SeatView) (sits : ControlAt k me) where
  abbrev c : ControlView
  c = control_of me.0.view

  pub looks_at_marks : Free k events.LookShared me → Allows (Ruled k) slots id me shared_place (λ n. n) (Took (control_after events.LookShared) shared_number me)
  looks_at_marks free = on_shared k slots id me sits events.LookShared (λ j e. cc) (λ n. n) (λ cells q. (free, refl, refl, refl))

  pub stores_word : (j v : ℕ) → c.knows_zero ≡ true → Free k (events.StoreWord j v) me
      → Allows (Ruled k) slots id me (word_place j) (λ _. v) (λ _. Took (control_after (events.StoreWord j v)) (λ _. v) me v)
  stores_word j v known free = control_allowed k slots id (word_place j) (events.StoreWord j v) (λ j e. cc) (λ _. v) (λ _. v) (λ _. v) me sits (λ cells ws q z. let sizes = z.guarded in
      let there = not_le k.count j (no_reason (hinders_control (sizes_at k) true None c.standing (events.StoreWord j v)) free NoSuchWord) in (
        ap (λ (z : Bool). find (hinders_control (sizes_at k) z None c.standing (events.StoreWord j v)) order) (q.zero known) ∙ free,
        record {
          found = refl;
          written = word_written k ws cells z j v (omega arith);
          same_size = length-set cells.words j v;
        },
      ))

  module _ (table : TableId) (found : ℕ) (new : Me (Unit {0}) SeatView) where
    pub looked_as : Took (control_after events.LookShared) shared_number me found new → Stepped k slots id me sits table events.LookShared new (Shared found)
    looked_as t = took k slots id me sits table events.LookShared shared_number found new _ t (λ cells q is. ap Shared is)
