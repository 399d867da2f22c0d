-- A table of a gate begins under its rule, and seats may be made and taken in.
use Rattle.std.proofs.Common.{◌≡◌, ℕ, ◌+◌, ◌<◌, ◌≤◌, List, [], ◌∷◌, ◌++◌, map, set, length, take, Bool, true, nat_lt, if◌then◌else◌, refl, ap, sym, ◌∙◌, subst, arith}
use Rattle.std.proofs.lemmas.List.{length-replicate, map-set, map-append}
use Rattle.std.proofs.lemmas.List.Elements.{All-set, All-append, All-replicate}
use Rattle.atomic_table.proofs.Lists.{at_map}
use mathlib.Core.Option.{some}
use lib.ListN.{get_elem?}
use Rattle.atomic_table.specs.Table.{Me, Splits, Joins}
use Rattle.atomic_table.specs.Table.{opening as opening_table}
use Rattle.atomic_table.proofs.Lists.{set_else}
use Rattle.percpu_core.specs.declared.limits.TheConstants.{PASS_LIMIT, SLOT_LIMIT, WORD_LIMIT}
use Rattle.percpu_core.specs.declared.pass_standing.PassStanding.{PassStanding}
use Rattle.percpu_core.specs.declared.view.PassView.{PassView}
use Rattle.percpu_core.specs.declared.view.ControlView.{ControlView}
use Rattle.percpu_core.specs.declared.view.View.{View}
use Rattle.percpu_core.specs.declared.view.View.TheVariants.{OfControl, OfPass, Spent}
use Rattle.percpu_core.specs.Laws.{Lawful}
use Rattle.percpu_core.specs.Starts.{IsWithinLimits, first_slot, first_cells}
use Rattle.percpu_core.specs.Snapshots.{first_pass}
use Rattle.percpu_core.specs.SeatLaws.{with_one_more}
use Rattle.percpu_core.specs.ControlLearns.{joined}
use Rattle.percpu_core.proofs.Opening.{alone_lawful}
use Rattle.percpu_core.proofs.SeatSteps.{splitting_keeps_laws, joining_keeps_laws}
use Rattle.percpu_gate.specs.declared.rule.GateKey.{GateKey}
use Rattle.percpu_gate.specs.Layout.{words_in_all, Spell}
use Rattle.percpu_gate.specs.declared.rule.SeatView.{SeatView}
use Rattle.percpu_gate.specs.Rule.{Ruled, Steps, StandsBy, origin, opening_of, seated, view_of, first_view, with_a_pass, fresh_seat, with_taken_in, spent_seat, after_retire}
use Rattle.percpu_gate.specs.Seats.{control_of}
use Rattle.percpu_gate.specs.Calls.{holding}
use Rattle.percpu_gate.proofs.Allowed.{ControlAt}
use Rattle.percpu_gate.proofs.Known.{pass_is_out}

lt-true : (a b : ℕ) → a < b → nat_lt a b ≡ true
lt-true a b h = grind arith

module _ (k : GateKey) (counted : length (take k.count k.words) ≡ k.count) (few : k.count ≤ WORD_LIMIT) (some_slot : 1 ≤ k.slots) (few_slots : k.slots ≤ SLOT_LIMIT) where
  within : IsWithinLimits (opening_of k)
  within = record { some_slot = some_slot; slots = few_slots; some_pass = omega arith; passes = omega arith; kills = omega arith; words = omega arith }

  pub opens : (ws : List ℕ) → length ws ≡ words_in_all k.slots → Spell ws (first_cells (opening_of k)) → Ruled k (opening_table {S = Unit {0}} ws [] (first_view k))
  opens ws size is = record {
    cells = first_cells (opening_of k);
    spelled = record { size = size; few = few; slots = length-replicate k.slots (first_slot k.start); guarded = counted; words = is };
    lawful = alone_lawful (opening_of k) within;
    steps = All-replicate (λ w. StandsBy w.steps w.view) 1 (first_view k) tt;
  }

module _ (k : GateKey) (id : ℕ) where
  abbrev Fresh : SeatView
  Fresh = seated k (OfPass first_pass) [] 0

  splits_control : (c : ControlView) (steps : Steps) (moves : ℕ) → c.passes + 1 ≤ PASS_LIMIT
      → Splits {S = Unit {0}} (Ruled k) id (seated k (OfControl c) steps moves) (seated k (OfControl (with_one_more c)) steps moves) Fresh
  splits_control c steps moves few s r at_seat = let sees = at_map view_of s.views id (seated k (OfControl c) steps moves) at_seat in record {
    cells = r.cells;
    spelled = r.spelled;
    lawful = subst (λ (vs : List View). Lawful (origin k.start) r.cells vs) (sym (of_views s.views)) (splitting_keeps_laws (origin k.start) r.cells (map view_of s.views) id c r.lawful sees few);
    steps = All-append (λ v. StandsBy v.steps v.view) (set s.views id left) (Fresh ∷ []) (All-set (λ v. StandsBy v.steps v.view) s.views id left tt r.steps)
        (All-replicate (λ v. StandsBy v.steps v.view) 1 Fresh refl);
  }
    where
      left : SeatView
      left = seated k (OfControl (with_one_more c)) steps moves

      of_views : (views : List SeatView) → map view_of (set views id left ++ Fresh ∷ []) ≡ set (map view_of views) id (OfControl (with_one_more c)) ++ OfPass first_pass ∷ []
      of_views views = map-append view_of (set views id left) (Fresh ∷ []) ∙ ap (λ (vs : List View). vs ++ OfPass first_pass ∷ []) (map-set view_of views id left)

  pub splits : (me : Me (Unit {0}) SeatView) → ControlAt k me → (control_of me.0.view).passes + 1 ≤ PASS_LIMIT → Splits {S = Unit {0}} (Ruled k) id me.0 (with_a_pass me.0) (fresh_seat me.0)
  splits me sits few = subst (λ (m : Me (Unit {0}) SeatView). Splits {S = Unit {0}} (Ruled k) id m.0 (with_a_pass m.0) (fresh_seat m.0)) (sym sits)
      (splits_control (control_of me.0.view) me.0.steps me.0.moves few)

  joins_pass : (other : ℕ) (c : ControlView) (steps : Steps) (moves : ℕ) (w : SeatView) (p : PassView) → w.view ≡ OfPass p → p.standing ≡ holding 0
      → Joins {S = Unit {0}} (Ruled k) id (seated k (OfControl c) steps moves) other w (seated k (OfControl (after_retire p c)) steps moves) spent_seat
  joins_pass other c steps moves w p is idle s r at_seat apart there = let sees = at_map view_of s.views id (seated k (OfControl c) steps moves) at_seat in record {
    cells = r.cells;
    spelled = r.spelled;
    lawful = let at = subst (λ (v : View). get_elem? (map view_of s.views) other ≡ some v) is (at_map view_of s.views other w (elsewhere s.views there)) in
        let out = pass_is_out (origin k.start) r.cells (map view_of s.views) id other c p r.lawful sees at in
        subst (λ (vs : List View). Lawful (origin k.start) r.cells vs) (sym (of_views s.views))
        (subst (λ (b : Bool). Lawful (origin k.start) r.cells (set (set (map view_of s.views) id (OfControl (if b then joined c p else c))) other Spent)) (sym (lt-true 0 c.passes out))
        (joining_keeps_laws (origin k.start) r.cells (map view_of s.views) id other c p r.lawful sees at (ap (λ (x : PassStanding). x.held) idle) (ap (λ (x : PassStanding). x.pending) idle)));
    steps = All-set (λ v. StandsBy v.steps v.view) (set s.views id both) other spent_seat tt (All-set (λ v. StandsBy v.steps v.view) s.views id both tt r.steps);
  }
    where
      both : SeatView
      both = seated k (OfControl (after_retire p c)) steps moves

      elsewhere : (views : List SeatView) → get_elem? (set views id both) other ≡ some w → get_elem? views other ≡ some w
      elsewhere views at = sym (set_else views id other both apart) ∙ at

      of_views : (views : List SeatView) → map view_of (set (set views id both) other spent_seat) ≡ set (set (map view_of views) id (OfControl (after_retire p c))) other Spent
      of_views views = map-set view_of (set views id both) other spent_seat ∙ ap (λ (vs : List View). set vs other Spent) (map-set view_of views id both)

  pub joins : (other : ℕ) (me : Me (Unit {0}) SeatView) (w : SeatView) (p : PassView) → ControlAt k me → w.view ≡ OfPass p → p.standing ≡ holding 0
      → Joins {S = Unit {0}} (Ruled k) id me.0 other w (with_taken_in me.0 w) spent_seat
  joins other me w p sits is idle = subst (λ (m : Me (Unit {0}) SeatView). Joins {S = Unit {0}} (Ruled k) id m.0 other w (with_taken_in m.0 w) spent_seat) (sym sits)
      (subst (λ (v : View). Joins {S = Unit {0}} (Ruled k) id control other w (with_taken_in control (record w { view = v })) spent_seat) (sym is)
      (joins_pass other (control_of me.0.view) me.0.steps me.0.moves w p is idle))
    where
      control : SeatView
      control = seated k (OfControl (control_of me.0.view)) me.0.steps me.0.moves
