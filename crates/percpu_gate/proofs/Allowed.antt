-- A step of a seat is allowed by the rule of its table if it is an enabled event of the machine, and writes the word that the event changes.
use Rattle.std.proofs.Common.{◌≡◌, ℕ, zero, suc, ◌<◌, arith, List, [], ◌∷◌, map, set, get_or, length, None, find, refl, ap, sym, ◌∙◌, subst}
use Rattle.std.proofs.Math.ListN.{length-set}
use Rattle.std.specs.Prelude.{All}
use Rattle.std.proofs.lemmas.List.{map-set}
use Rattle.std.proofs.lemmas.List.Elements.{All-set}
use mathlib.Core.Option.{some, some-injective}
use lib.ListN.{get_elem?}
use Rattle.atomic_table.proofs.Lists.{at_map}
use Rattle.atomic_table.specs.Table.{Me, keeps, Allows}
use Rattle.percpu_core.specs.declared.pass_event.PassEvent.{PassEvent}
use Rattle.percpu_core.specs.declared.control_event.ControlEvent.{ControlEvent}
use Rattle.percpu_core.specs.declared.control_event.ControlEvent.TheVariants.{Join}
use Rattle.percpu_core.specs.declared.view.PassView.{PassView}
use Rattle.percpu_core.specs.declared.view.ControlView.{ControlView}
use Rattle.percpu_core.specs.declared.view.View.{View}
use Rattle.percpu_core.specs.declared.view.View.TheVariants.{OfControl, OfPass}
use Rattle.percpu_core.specs.declared.sizes.Sizes.{Sizes}
use Rattle.percpu_core.specs.Cells.{Cells, sizes_of}
use Rattle.percpu_core.specs.Laws.{Lawful}
use Rattle.percpu_core.specs.PassSteps.{hinders_pass, cells_after_pass, pass_reply, standing_after}
use Rattle.percpu_core.specs.PassLearns.{pass_view_after}
use Rattle.percpu_core.specs.ControlSteps.{hinders_control, cells_after_control}
use Rattle.percpu_core.specs.ControlLearns.{control_view_after}
use Rattle.percpu_core.specs.Machine.{order, IsEnabled}
use Rattle.percpu_core.specs.SeatLaws.{Sees}
use Rattle.percpu_core.proofs.SlotLists.{slots_after_pass-length, slots_after_control-length}
use Rattle.percpu_core.proofs.SeatSteps.{pass_steps_keep_laws, control_steps_keep_laws}
use Rattle.percpu_gate.specs.declared.rule.GateKey.{GateKey}
use Rattle.percpu_gate.specs.Layout.{Spell}
use Rattle.percpu_gate.specs.declared.rule.SeatView.{SeatView}
use Rattle.percpu_gate.specs.Rule.{Spelled, Ruled, Steps, StandsBy, sizes_at, origin, seated, view_of, Took, pass_after, moves_after, control_after}
use Rattle.percpu_gate.specs.Seats.{pass_of, control_of}
use Rattle.percpu_gate.proofs.Known.{ControlKnows, control_knows}

-- a seat at the gate of this key is a pass's, or the control's
abbrev pub PassAt : GateKey → Me (Unit {0}) SeatView → Type 0
PassAt k me = me ≡ (seated k (OfPass (pass_of me.0.view)) me.0.steps me.0.moves, [])

abbrev pub ControlAt : GateKey → Me (Unit {0}) SeatView → Type 0
ControlAt k me = me ≡ (seated k (OfControl (control_of me.0.view)) me.0.steps me.0.moves, [])

-- the sizes of the memory are those of the gate
pub sizes_are : (k : GateKey) (cells : Cells) → length cells.slots ≡ k.slots → length cells.words ≡ k.count → sizes_of cells ≡ sizes_at k
sizes_are k cells slots words = λ j. record { slots = slots j; words = words j }

-- the laws hold of the views after a step, as they do of the seats'
pub lawful_seats : (k : GateKey) (cells : Cells) (views : List SeatView) (id : ℕ) (w : SeatView) → Lawful (origin k.start) cells (set (map view_of views) id w.view)
    → Lawful (origin k.start) cells (map view_of (set views id w))
lawful_seats k cells views id w l = subst (λ (vs : List View). Lawful (origin k.start) cells vs) (sym (map-set view_of views id w)) l

seat_there : (views : List SeatView) (id : ℕ) (w : SeatView) → get_elem? views id ≡ some w → id < length views
seat_there [] id w at = cc
seat_there (v ∷ vs) zero w at = omega arith
seat_there (v ∷ vs) (suc i) w at = let there = seat_there vs i w at in omega arith

seat_is : (views : List SeatView) (id : ℕ) (w : SeatView) → get_elem? views id ≡ some w → get_or views id w ≡ w
seat_is [] id w at = refl
seat_is (v ∷ vs) zero w at = some-injective v w at
seat_is (v ∷ vs) (suc i) w at = seat_is vs i w at

-- what holds of each seat holds of this one
pub of_seat : (P : SeatView → Type 0) (views : List SeatView) (id : ℕ) (w : SeatView) → All P views → get_elem? views id ≡ some w → P w
of_seat P views id w all at = subst P (seat_is views id w at) (all id w (seat_there views id w at))

-- the word at this place is that of the cells, and if it becomes f of itself the cells become these
pub record Writes (at : ℕ) (f : ℕ → ℕ) (word : Cells → ℕ) (cells after : Cells) (ws : List ℕ) : Type 0 where
  pub found : get_or ws at 0 ≡ word cells
  pub written : Spell (set ws at (f (get_or ws at 0))) after

abbrev pub PassWrites : GateKey → ℕ → ℕ → PassEvent → (ℕ → ℕ) → (Cells → ℕ) → PassView → Type 0
PassWrites k id at e f word p = (cells : Cells) (ws : List ℕ) (views : List View) → Lawful (origin k.start) cells views → Sees views id (OfPass p) → Spelled k ws cells
    → Writes at f word cells (cells_after_pass e cells) ws

module _ (k : GateKey) (slots id at : ℕ) (e : PassEvent) (f : ℕ → ℕ) (word : Cells → ℕ) where
  allowed : (p : PassView) (steps : Steps) (moves : ℕ) → IsEnabled (hinders_pass (sizes_at k) p.standing e) → PassWrites k id at e f word p
      → Allows (Ruled k) slots id (seated k (OfPass p) steps moves, []) at f (Took (pass_after e) word (seated k (OfPass p) steps moves, []))
  allowed p steps moves free writes s r _ at_seat _ =
      let sees = at_map view_of s.views id (seated k (OfPass p) steps moves) at_seat in
      let z = r.spelled in
      let after = seated k (OfPass (pass_view_after e r.cells p)) ((e, pass_reply e r.cells) ∷ steps) moves in
      let stood = of_seat (λ v. StandsBy v.steps v.view) s.views id (seated k (OfPass p) steps moves) r.steps at_seat in
      let w = writes r.cells s.words (map view_of s.views) r.lawful sees z in (
        after,
        keeps,
        tt,
        record {
          cells = cells_after_pass e r.cells;
          spelled = record {
            size = length-set s.words at (f (get_or s.words at 0)) ∙ z.size;
            few = z.few;
            slots = slots_after_pass-length e r.cells.slots ∙ z.slots;
            guarded = z.guarded;
            words = w.written;
          };
          lawful = lawful_seats k (cells_after_pass e r.cells) s.views id after
              (pass_steps_keep_laws (origin k.start) r.cells (map view_of s.views) id p e r.lawful sees (ap (λ (n : Sizes). find (hinders_pass n p.standing e) order) (sizes_are k r.cells z.slots z.guarded) ∙ free));
          steps = All-set (λ v. StandsBy v.steps v.view) s.views id after (ap (standing_after e (pass_reply e r.cells)) stood) r.steps;
        },
        record {
          moment = record { cells = r.cells; slots = z.slots; guarded = z.guarded; views = map view_of s.views; seat = id; lawful = r.lawful; sees = sees };
          word_found = w.found;
          learned = refl;
        },
      )

  pub pass_allowed : (me : Me (Unit {0}) SeatView) → PassAt k me → IsEnabled (hinders_pass (sizes_at k) (pass_of me.0.view).standing e) → PassWrites k id at e f word (pass_of me.0.view)
      → Allows (Ruled k) slots id me at f (Took (pass_after e) word me)
  pass_allowed me sits free writes = subst (λ (m : Me (Unit {0}) SeatView). Allows (Ruled k) slots id m at f (Took (pass_after e) word m)) (sym sits)
      (allowed (pass_of me.0.view) me.0.steps me.0.moves free writes)

-- the same for the control, where `told` is the number that the step returns: the one found, or at a store the one stored
pub record Stores (at : ℕ) (f told : ℕ → ℕ) (word : Cells → ℕ) (cells after : Cells) (ws : List ℕ) : Type 0 where
  pub found : told (get_or ws at 0) ≡ word cells
  pub written : Spell (set ws at (f (get_or ws at 0))) after
  pub same_size : length after.words ≡ length cells.words

abbrev pub Enabled : GateKey → ControlEvent → ControlView → Cells → Type 0
Enabled k e c cells = IsEnabled (hinders_control (sizes_at k) cells.shared.zero None c.standing e)

abbrev pub ControlWrites : GateKey → ℕ → ControlEvent → (ℕ → ℕ) → (ℕ → ℕ) → (Cells → ℕ) → ControlView → Type 0
ControlWrites k at e f told word c = (cells : Cells) (ws : List ℕ) → ControlKnows cells c → Spelled k ws cells
    → Enabled k e c cells × Stores at f told word cells (cells_after_control e c.standing cells) ws

module _ (k : GateKey) (slots id at : ℕ) (e : ControlEvent) (no_join : (j : ℕ) → e ≡ Join j → ⊥) (f told : ℕ → ℕ) (word : Cells → ℕ) where
  allowed_to_control : (c : ControlView) (steps : Steps) (moves : ℕ) → ControlWrites k at e f told word c
      → Allows (Ruled k) slots id (seated k (OfControl c) steps moves, []) at f (λ n. Took (control_after e) word (seated k (OfControl c) steps moves, []) (told n))
  allowed_to_control c steps moves writes s r _ at_seat _ =
      let sees = at_map view_of s.views id (seated k (OfControl c) steps moves) at_seat in
      let z = r.spelled in
      let after = seated k (OfControl (control_view_after e r.cells c)) steps (moves_after e moves) in
      let both = writes r.cells s.words (control_knows (origin k.start) r.cells (map view_of s.views) id c r.lawful sees) z in let w = both.1 in (
        after,
        keeps,
        tt,
        record {
          cells = cells_after_control e c.standing r.cells;
          spelled = record {
            size = length-set s.words at (f (get_or s.words at 0)) ∙ z.size;
            few = z.few;
            slots = slots_after_control-length e c.standing.phase r.cells.slots ∙ z.slots;
            guarded = w.same_size ∙ z.guarded;
            words = w.written;
          };
          lawful = lawful_seats k (cells_after_control e c.standing r.cells) s.views id after
              (control_steps_keep_laws (origin k.start) r.cells (map view_of s.views) id c e r.lawful sees no_join
              (ap (λ (n : Sizes). find (hinders_control n r.cells.shared.zero None c.standing e) order) (sizes_are k r.cells z.slots z.guarded) ∙ both.0));
          steps = All-set (λ v. StandsBy v.steps v.view) s.views id after tt r.steps;
        },
        record {
          moment = record { cells = r.cells; slots = z.slots; guarded = z.guarded; views = map view_of s.views; seat = id; lawful = r.lawful; sees = sees };
          word_found = w.found;
          learned = refl;
        },
      )

  pub control_allowed : (me : Me (Unit {0}) SeatView) → ControlAt k me → ControlWrites k at e f told word (control_of me.0.view)
      → Allows (Ruled k) slots id me at f (λ n. Took (control_after e) word me (told n))
  control_allowed me sits writes =
      subst (λ (m : Me (Unit {0}) SeatView). Allows (Ruled k) slots id m at f (λ n. Took (control_after e) word m (told n))) (sym sits)
      (allowed_to_control (control_of me.0.view) me.0.steps me.0.moves writes)
