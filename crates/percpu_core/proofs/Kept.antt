-- What a world keeps changes as the snapshot does, and the laws go with it.
use Rattle.std.proofs.Common.{◌≡◌, ℕ, zero, suc, ◌+◌, false, List, [], ◌∷◌, map, length, set, get_or, Option, Some, None, refl, arith, ap, sym, ◌∙◌, subst}
use Rattle.std.specs.Prelude.{option_map}
use Rattle.std.proofs.lemmas.List.{map-set}
use mathlib.Core.Option.{some}
use lib.ListN.{get_elem?}
use Rattle.percpu_core.specs.declared.event.Event.{Event}
use Rattle.percpu_core.specs.declared.event.Event.TheVariants.{Pass, Control}
use Rattle.percpu_core.specs.declared.pass_event.PassEvent.{PassEvent}
use Rattle.percpu_core.specs.declared.control_event.ControlEvent.{ControlEvent}
use Rattle.percpu_core.specs.declared.control_event.ControlEvent.TheVariants.{MarkDead, Close, Collect, Confirm, DropBase, Mark, TakeBase, NextFront, ClearDead, AddBias, OpenNext, StoreWord, Join, LookShared}
use Rattle.percpu_core.specs.declared.not_enabled.NotEnabled.TheVariants.{NoSuchActor, MidCall}
use Rattle.percpu_core.specs.declared.pass_standing.PassStanding.{PassStanding}
use Rattle.percpu_core.specs.declared.view.PassView.{PassView}
use Rattle.percpu_core.specs.declared.view.View.{View}
use Rattle.percpu_core.specs.declared.view.View.TheVariants.{OfControl, OfPass, Spent}
use Rattle.percpu_core.specs.Views.{releases_of_passes}
use Rattle.percpu_core.specs.ReleaseLaw.{Origin}
use Rattle.percpu_core.specs.Laws.{Laws}
use Rattle.percpu_core.specs.Cells.{sizes_of}
use Rattle.percpu_core.specs.PassSteps.{hinders_pass, pass_reply, cells_after_pass, standing_after}
use Rattle.percpu_core.specs.ControlSteps.{hinders_control, control_reply, control_standing_after}
use Rattle.percpu_core.specs.PassLearns.{pass_view_after}
use Rattle.percpu_core.specs.Machine.{State, IsEnabled, pass_at, pass_refusal, refusal, won, after}
use Rattle.percpu_core.specs.Snapshots.{Snapshot, view_after, control_taking, snapshot_after, standing_of, kept, IsLawful}
use Rattle.percpu_core.proofs.Passes.{over_passes-set}
use Rattle.percpu_core.proofs.Enabled.{neither, no_reason, pass_keeps_laws, control_keeps_laws, join_keeps_laws}

-- the view of a pass in this state
pub record Seat (vs : List View) (k : ℕ) (q : PassStanding) : Type 0 where
  pub view : PassView
  pub at : get_elem? vs k ≡ some (OfPass view)
  pub stands : view.standing ≡ q
  pub place : get_or vs k Spent ≡ OfPass view

seat_of : (v : View) (q : PassStanding) → standing_of v ≡ Some q → (p : PassView) × (v ≡ OfPass p) × (p.standing ≡ q)
seat_of (OfPass p) q e = (p, refl, cc)
seat_of (OfControl c) q e = cc
seat_of Spent q e = cc

pub seat : (vs : List View) (k : ℕ) (q : PassStanding) → get_or (map standing_of vs) k None ≡ Some q → Seat vs k q
seat [] k q e = cc
seat (v ∷ vs) zero q e = let s = seat_of v q e in record { view = s.0; at = ap some s.1; stands = s.2; place = s.1 }
seat (v ∷ vs) (suc k) q e = let s = seat vs k q e in record { view = s.view; at = s.at; stands = s.stands; place = s.place }

-- a step of a pass whose view is p
module _ (m : Snapshot) (k : ℕ) (p : PassView) (at : get_elem? m.others k ≡ some (OfPass p)) (place : get_or m.others k Spent ≡ OfPass p) where
  others_are : (e : PassEvent) → set m.others k (view_after e m.cells (get_or m.others k Spent)) ≡ set m.others k (OfPass (pass_view_after e m.cells p))
  others_are e = ap (λ (v : View). set m.others k (view_after e m.cells v)) place

  stands_at : (vs : List View) (i : ℕ) → get_elem? vs i ≡ some (OfPass p) → get_or (map standing_of vs) i None ≡ Some p.standing
  stands_at [] i e = cc
  stands_at (v ∷ vs) zero e = ap standing_of (some_is v e)
    where
      some_is : (v : View) → some v ≡ some (OfPass p) → v ≡ OfPass p
      some_is v e = cc
  stands_at (v ∷ vs) (suc i) e = stands_at vs i e

  passes_are : (e : PassEvent) → map standing_of (set m.others k (OfPass (pass_view_after e m.cells p)))
      ≡ set (map standing_of m.others) k (option_map (standing_after e (pass_reply e m.cells)) (get_or (map standing_of m.others) k None))
  passes_are e = map-set standing_of m.others k (OfPass (pass_view_after e m.cells p))
      ∙ sym (ap (λ (q : Option PassStanding). set (map standing_of m.others) k (option_map (standing_after e (pass_reply e m.cells)) q)) (stands_at m.others k at))

  releases_are : (e : PassEvent) → m.control.releases + releases_of_passes (set m.others k (OfPass (pass_view_after e m.cells p))) ≡ m.control.releases + releases_of_passes m.others + won (pass_reply e m.cells)
  releases_are e = let s = over_passes-set (λ p. p.releases) m.others k (OfPass p) (OfPass (pass_view_after e m.cells p)) at in omega arith

  pub kept_pass : (e : PassEvent) → kept (snapshot_after m (Pass k e)) ≡ after (kept m) (Pass k e)
  kept_pass e = λ j. record {
    cells = cells_after_pass e m.cells;
    control = m.control.standing;
    passes = (ap (map standing_of) (others_are e) ∙ passes_are e) j;
    releases = (ap (λ (vs : List View). m.control.releases + releases_of_passes vs) (others_are e) ∙ releases_are e) j;
  }

-- a step of the control that takes in no pass
module _ (m : Snapshot) where
  counted : (r : ℕ) → m.control.releases + r + releases_of_passes m.others ≡ m.control.releases + releases_of_passes m.others + r
  counted r = omega arith

  abbrev Same : ControlEvent → Type 0
  Same e = kept (snapshot_after m (Control e)) ≡ after (kept m) (Control e)

  pub kept_control : (e : ControlEvent) → ((k : ℕ) → e ≡ Join k → ⊥) → Same e
  kept_control MarkDead n = λ j. record (after (kept m) (Control MarkDead)) { releases = counted 0 j }
  kept_control Close n = λ j. record (after (kept m) (Control Close)) { releases = counted 0 j }
  kept_control Collect n = λ j. record (after (kept m) (Control Collect)) { releases = counted 0 j }
  kept_control AddBias n = λ j. record (after (kept m) (Control AddBias)) { releases = counted 0 j }
  kept_control OpenNext n = λ j. record (after (kept m) (Control OpenNext)) { releases = counted 0 j }
  kept_control Confirm n = λ j. record (after (kept m) (Control Confirm)) { releases = counted 0 j }
  kept_control DropBase n = λ j. record (after (kept m) (Control DropBase)) { releases = counted (won (control_reply DropBase m.control.standing m.cells)) j }
  kept_control Mark n = λ j. record (after (kept m) (Control Mark)) { releases = counted (won (control_reply Mark m.control.standing m.cells)) j }
  kept_control TakeBase n = λ j. record (after (kept m) (Control TakeBase)) { releases = counted 0 j }
  kept_control NextFront n = λ j. record (after (kept m) (Control NextFront)) { releases = counted 0 j }
  kept_control ClearDead n = λ j. record (after (kept m) (Control ClearDead)) { releases = counted 0 j }
  kept_control (StoreWord k v) n = λ j. record (after (kept m) (Control (StoreWord k v))) { releases = counted 0 j }
  kept_control (Join k) n = absurd (n k refl)
  kept_control LookShared n = λ j. record (after (kept m) (Control LookShared)) { releases = counted 0 j }

  pub kept_join : (k : ℕ) (p : PassView) → get_elem? m.others k ≡ some (OfPass p) → get_or m.others k Spent ≡ OfPass p → m.control.standing.to_mark ≡ false → Same (Join k)
  kept_join k p at place still = λ j. record {
    cells = m.cells;
    control = (standing_is ∙ still_is) j;
    passes = map-set standing_of m.others k Spent j;
    releases = (ap (λ (v : View). (control_taking v m.control).releases + releases_of_passes (set m.others k Spent)) place ∙ released) j;
  }
    where
      standing_is : (control_taking (get_or m.others k Spent) m.control).standing ≡ m.control.standing
      standing_is = ap (λ (v : View). (control_taking v m.control).standing) place

      still_is : m.control.standing ≡ control_standing_after (Join k) (control_reply (Join k) m.control.standing m.cells) (length m.cells.slots) m.cells.shared.dead m.control.standing
      still_is = λ j. record m.control.standing { to_mark = still j }

      released : m.control.releases + p.releases + releases_of_passes (set m.others k Spent) ≡ m.control.releases + releases_of_passes m.others + 0
      released = let s = over_passes-set (λ p. p.releases) m.others k (OfPass p) Spent at in omega arith

-- the laws, of a whole snapshot
abbrev pub Holds : Origin → Snapshot → Type 0
Holds o m = Laws o m.cells m.control m.others

-- an enabled event leads to a snapshot at which the laws hold, and of which the world keeps what the machine says
abbrev pub Goes : Origin → Snapshot → Event → Type 0
Goes o m e = Holds o (snapshot_after m e) × (kept (snapshot_after m e) ≡ after (kept m) e)

module _ (o : Origin) (m : Snapshot) (l : Holds o m) where
  pass_goes : (k : ℕ) (e : PassEvent) (q : Option PassStanding) → pass_at (kept m) k ≡ q → pass_refusal m.cells q e ≡ None → Goes o m (Pass k e)
  pass_goes k e None is h = cc
  pass_goes k e (Some q) is h = let s = seat m.others k q is in let p : PassView = s.view in
      let free : IsEnabled (hinders_pass (sizes_of m.cells) p.standing e) = subst (λ (q : PassStanding). IsEnabled (hinders_pass (sizes_of m.cells) q e)) (sym s.stands) h in
      (subst (λ (vs : List View). Laws o (cells_after_pass e m.cells) m.control vs) (sym (others_are m k p s.at s.place e)) (pass_keeps_laws o m.cells m.control m.others l k p s.at e free), kept_pass m k p s.at s.place e)

  join_goes : (k : ℕ) (q : Option PassStanding) → pass_at (kept m) k ≡ q → IsEnabled (hinders_control (sizes_of m.cells) m.cells.shared.zero q m.control.standing (Join k)) → Goes o m (Control (Join k))
  join_goes k None is h = let there = no_reason (hinders_control (sizes_of m.cells) m.cells.shared.zero None m.control.standing (Join k)) h NoSuchActor in cc
  join_goes k (Some q) is h = let s = seat m.others k q is in let p : PassView = s.view in
      let free : IsEnabled (hinders_control (sizes_of m.cells) m.cells.shared.zero (Some p.standing) m.control.standing (Join k))
      = subst (λ (q : PassStanding). IsEnabled (hinders_control (sizes_of m.cells) m.cells.shared.zero (Some q) m.control.standing (Join k))) (sym s.stands) h in
      let still : m.control.standing.to_mark ≡ false = (neither _ _ (no_reason (hinders_control (sizes_of m.cells) m.cells.shared.zero (Some p.standing) m.control.standing (Join k)) free MidCall)).0 in
      (subst (λ (v : View). Laws o m.cells (control_taking v m.control) (set m.others k Spent)) (sym s.place) (join_keeps_laws o m.cells m.control m.others l k p s.at free), kept_join m k p s.at s.place still)

  pub event_goes : (e : Event) → refusal (kept m) e ≡ None → Goes o m e
  event_goes (Pass k e) h = pass_goes k e (pass_at (kept m) k) refl h
  event_goes (Control (Join k)) h = join_goes k (pass_at (kept m) k) refl h
  event_goes (Control MarkDead) h = (control_keeps_laws o m.cells m.control m.others l MarkDead (λ i is. cc) h, kept_control m MarkDead (λ i is. cc))
  event_goes (Control Close) h = (control_keeps_laws o m.cells m.control m.others l Close (λ i is. cc) h, kept_control m Close (λ i is. cc))
  event_goes (Control Collect) h = (control_keeps_laws o m.cells m.control m.others l Collect (λ i is. cc) h, kept_control m Collect (λ i is. cc))
  event_goes (Control AddBias) h = (control_keeps_laws o m.cells m.control m.others l AddBias (λ i is. cc) h, kept_control m AddBias (λ i is. cc))
  event_goes (Control OpenNext) h = (control_keeps_laws o m.cells m.control m.others l OpenNext (λ i is. cc) h, kept_control m OpenNext (λ i is. cc))
  event_goes (Control Confirm) h = (control_keeps_laws o m.cells m.control m.others l Confirm (λ i is. cc) h, kept_control m Confirm (λ i is. cc))
  event_goes (Control DropBase) h = (control_keeps_laws o m.cells m.control m.others l DropBase (λ i is. cc) h, kept_control m DropBase (λ i is. cc))
  event_goes (Control Mark) h = (control_keeps_laws o m.cells m.control m.others l Mark (λ i is. cc) h, kept_control m Mark (λ i is. cc))
  event_goes (Control TakeBase) h = (control_keeps_laws o m.cells m.control m.others l TakeBase (λ i is. cc) h, kept_control m TakeBase (λ i is. cc))
  event_goes (Control NextFront) h = (control_keeps_laws o m.cells m.control m.others l NextFront (λ i is. cc) h, kept_control m NextFront (λ i is. cc))
  event_goes (Control ClearDead) h = (control_keeps_laws o m.cells m.control m.others l ClearDead (λ i is. cc) h, kept_control m ClearDead (λ i is. cc))
  event_goes (Control (StoreWord k v)) h = (control_keeps_laws o m.cells m.control m.others l (StoreWord k v) (λ i is. cc) h, kept_control m (StoreWord k v) (λ i is. cc))
  event_goes (Control LookShared) h = (control_keeps_laws o m.cells m.control m.others l LookShared (λ i is. cc) h, kept_control m LookShared (λ i is. cc))

-- the laws go with the state of a world
pub lawful_after : (s : State) (e : Event) → IsLawful s → refusal s e ≡ None → IsLawful (after s e)
lawful_after s e l h = let m : Snapshot = l.1 in let is : kept m ≡ s = l.2 in
    let goes = event_goes l.0 m l.3 e (subst (λ (s : State). refusal s e ≡ None) (sym is) h) in
    (l.0, snapshot_after m e, goes.1 ∙ ap (λ (s : State). after s e) is, goes.0)
