-- What the laws say of a run that is over.
use Rattle.std.proofs.Common.{◌≡◌, ℕ, ◌+◌, ◌==◌, Bool, true, false, not, ◌&&◌, List, [], ◌∷◌, map, Option, None, refl, arith, ap, sym, ◌∙◌, subst}
use Rattle.std.specs.Prelude.{All, zip, slice_index_or, if◌then◌else◌}
use Rattle.std.proofs.lemmas.List.Elements.{All-nil, All-cons, All-head, All-tail}
use Rattle.percpu_words.specs.SharedWord.{SharedWord}
use Rattle.percpu_core.specs.declared.event.Event.{Event}
use Rattle.percpu_core.specs.declared.event.Event.TheVariants.{Pass, Control}
use Rattle.percpu_core.specs.declared.pass_event.PassEvent.{PassEvent}
use Rattle.percpu_core.specs.declared.pass_event.PassEvent.TheVariants as pass
use Rattle.percpu_core.specs.declared.control_event.ControlEvent.{ControlEvent}
use Rattle.percpu_core.specs.declared.control_event.ControlEvent.TheVariants as control
use Rattle.percpu_core.specs.declared.phase.Phase.{Phase}
use Rattle.percpu_core.specs.declared.phase.Phase.TheVariants.{LiveSlots, LiveAtomic, Closing, Collected, Confirmed, Dead, Reviving, Fronted, Opening}
use Rattle.percpu_core.specs.declared.reply.Reply.{Reply}
use Rattle.percpu_core.specs.declared.reply.Reply.TheVariants.{Given, Refused, ToMark, NotLast, Last, Lost, Won}
use Rattle.percpu_core.specs.declared.pass_standing.PassStanding.{PassStanding}
use Rattle.percpu_core.specs.declared.slot.Slot.{Slot}
use Rattle.percpu_core.specs.declared.slot.Slot.TheVariants.{Closed, Open}
use Rattle.percpu_core.specs.declared.view.PassView.{PassView}
use Rattle.percpu_core.specs.declared.view.View.{View}
use Rattle.percpu_core.specs.declared.view.View.TheVariants.{OfControl, OfPass, Spent}
use Rattle.percpu_core.specs.Cells.{is_dead_alone, slot_at}
use Rattle.percpu_core.specs.PassSteps.{look_reply, pass_reply}
use Rattle.percpu_core.specs.ControlSteps.{control_reply}
use Rattle.percpu_core.specs.Phases.{is_phase, is_dead_in, may_be_zero, has_bias, holds_base}
use Rattle.percpu_core.specs.Views.{count, to_undo, to_mark, over_passes}
use Rattle.percpu_core.specs.ReleaseLaw.{Origin}
use Rattle.percpu_core.specs.Machine.{State, reply, Run}
use Rattle.percpu_core.specs.Starts.{first_state}
use Rattle.percpu_core.specs.Snapshots.{Snapshot, standing_of, kept, snapshot_after, snapshot_after_all, first_snapshot, origin_of}
use Rattle.percpu_core.specs.Endings.{IsOver, is_at_rest, clears_zero, zeros_cleared, IsTryRefused, RunsLoseNothing}
use Rattle.percpu_core.proofs.Counting.{value-unbiased}
use Rattle.percpu_core.proofs.EveryRun.{laws_always, won_along, kills_along, few, taken_zeros}
use Rattle.percpu_core.proofs.Kept.{Holds, event_goes}
use Rattle.percpu_core.proofs.Opening.{first_lawful, first_kept}
use Rattle.percpu_core.proofs.PassEvents.{zero_dead}

abbrev IsGone : Option PassStanding → Type 0
IsGone p = p ≡ None

-- passes that have joined count nothing
joined_count : (f : PassView → ℕ) (vs : List View) → All IsGone (map standing_of vs) → over_passes f vs ≡ 0
joined_count f [] h = refl
joined_count f (v ∷ vs) h = first v (All-head IsGone (standing_of v) (map standing_of vs) h) (joined_count f vs (All-tail IsGone (standing_of v) (map standing_of vs) h))
  where
    first : (v : View) → standing_of v ≡ None → over_passes f vs ≡ 0 → over_passes f (v ∷ vs) ≡ 0
    first (OfPass p) e rest = cc
    first (OfControl c) e rest = omega arith
    first Spent e rest = omega arith

always : (b : Bool) → (b ≡ false → ⊥) → b ≡ true
always true h = refl
always false h = absurd (h refl)

never : (b : Bool) → (b ≡ true → ⊥) → b ≡ false
never true h = absurd (h refl)
never false h = refl

alone : (s : SharedWord) → s.dead ≡ true → s.zero ≡ false → s.value ≡ 0 → is_dead_alone s ≡ true
alone s dead clear none = λ j. dead j && not (clear j) && (none j == 0)

module _ (o : Origin) (m : Snapshot) (l : Holds o m) (over : IsOver (kept m)) where
  counts_nothing : (f : PassView → ℕ) → over_passes f m.others ≡ 0
  counts_nothing f = joined_count f m.others over.joined

  -- DEAD alone has a seat that will mark it, and there is none
  dead_is_marked : m.control.standing.phase ≡ Dead → m.cells.shared.zero ≡ true
  dead_is_marked is = always m.cells.shared.zero (λ clear.
      let unbiased = value-unbiased o m.cells m.control m.others l (ap has_bias is) in let base : count (holds_base m.control.standing.phase) ≡ 0 = ap (λ (x : Phase). count (holds_base x)) is in
      let held = counts_nothing (λ p. p.standing.held) in let undo = counts_nothing (λ p. to_undo p.standing.pending) in
      let marks = counts_nothing (λ p. to_mark p.standing.pending) in let own : count m.control.standing.to_mark ≡ 0 = ap count over.marked in
      let owes = l.mark (alone m.cells.shared (l.phase.dead ∙ ap (λ (x : Phase). is_dead_in x m.control.killing) is) clear (omega arith)) in omega arith)

  not_zero : may_be_zero m.control.standing.phase ≡ false → m.cells.shared.zero ≡ false
  not_zero h = never m.cells.shared.zero (λ z. let may = l.zero.after_drop z in cc)

  zero_in : (x : Phase) → m.control.standing.phase ≡ x → is_at_rest x ≡ true → m.cells.shared.zero ≡ is_phase Dead x
  zero_in LiveSlots is rest = not_zero (ap may_be_zero is)
  zero_in LiveAtomic is rest = not_zero (ap may_be_zero is)
  zero_in Dead is rest = dead_is_marked is
  zero_in (Closing i) is rest = cc
  zero_in Collected is rest = cc
  zero_in Confirmed is rest = cc
  zero_in Reviving is rest = cc
  zero_in Fronted is rest = cc
  zero_in (Opening i) is rest = cc

  zero_is : m.cells.shared.zero ≡ is_phase Dead m.control.standing.phase
  zero_is = zero_in m.control.standing.phase refl over.at_rest

-- zeros are cleared in the snapshots as in the run
zeros_step : (m : Snapshot) (e : Event) → (snapshot_after m e).control.zeros_cleared ≡ m.control.zeros_cleared + clears_zero (kept m) e
zeros_step m (Pass k e) = omega arith
zeros_step m (Control (control.Join k)) = let same = (taken_zeros (slice_index_or m.others k Spent) m.control).0 in omega arith
zeros_step m (Control control.ClearDead) = omega arith
zeros_step m (Control control.MarkDead) = omega arith
zeros_step m (Control control.Close) = omega arith
zeros_step m (Control control.Collect) = omega arith
zeros_step m (Control control.Confirm) = omega arith
zeros_step m (Control control.DropBase) = omega arith
zeros_step m (Control control.Mark) = omega arith
zeros_step m (Control control.TakeBase) = omega arith
zeros_step m (Control control.NextFront) = omega arith
zeros_step m (Control control.AddBias) = omega arith
zeros_step m (Control control.OpenNext) = omega arith
zeros_step m (Control (control.StoreWord k v)) = omega arith
zeros_step m (Control control.LookShared) = omega arith

zeros_are : (o : Origin) (m : Snapshot) → Holds o m → (events : List Event) (replies : List Reply) (last : State) → Run (kept m) events replies last
    → (snapshot_after_all m events).control.zeros_cleared ≡ m.control.zeros_cleared + zeros_cleared (kept m) events
zeros_are o m l [] replies last run = omega arith
zeros_are o m l (e ∷ es) [] last run = absurd run
zeros_are o m l (e ∷ es) (r ∷ rs) last run = let goes = event_goes o m l e run.0 in
    let more = zeros_are o (snapshot_after m e) goes.0 es rs last (subst (λ (s : State). Run s es rs last) (sym goes.1) run.2) in
    let same = ap (λ (s : State). zeros_cleared s es) goes.1 in let one = zeros_step m e in omega arith

-- a pass that was refused found a mark
if_refused : (b : Bool) → (if b then Refused else Given) ≡ Refused → b ≡ true
if_refused true h = refl
if_refused false h = cc

left_not : {A : Type 0} (b : Bool) → (if b then ToMark else NotLast) ≡ Refused → A
left_not true h = cc
left_not false h = cc

mark_not : {A : Type 0} (b : Bool) → (if b then Last else Lost) ≡ Refused → A
mark_not true h = cc
mark_not false h = cc

won_not : {A : Type 0} (b : Bool) → (if b then Won else Lost) ≡ Refused → A
won_not true h = cc
won_not false h = cc

look_not : {A : Type 0} (s : Slot) → look_reply s ≡ Refused → A
look_not Closed h = cc
look_not (Open d) h = cc

module _ (o : Origin) (m : Snapshot) (l : Holds o m) where
  refused_pass : (e : PassEvent) → pass_reply e m.cells ≡ Refused → m.cells.shared.dead ≡ true
  refused_pass pass.AddTry h = l.phase.dead ∙ zero_dead m.control.standing.phase m.control.killing (l.zero.after_drop (if_refused m.cells.shared.zero h))
  refused_pass pass.AddLive h = if_refused m.cells.shared.dead h
  refused_pass (pass.AddGet n) h = cc
  refused_pass (pass.Sub n) h = left_not _ h
  refused_pass pass.Undo h = left_not _ h
  refused_pass pass.Mark h = mark_not _ h
  refused_pass (pass.Look s) h = look_not (slot_at m.cells.slots s) h
  refused_pass (pass.Take s d n) h = won_not _ h
  refused_pass (pass.Give s d n) h = won_not _ h
  refused_pass pass.LookShared h = cc
  refused_pass pass.LoadFront h = cc
  refused_pass (pass.LoadWord k) h = cc

  refused_control : {A : Type 0} (e : ControlEvent) → control_reply e m.control.standing m.cells ≡ Refused → A
  refused_control control.MarkDead h = cc
  refused_control control.Close h = cc
  refused_control control.Collect h = cc
  refused_control control.Confirm h = cc
  refused_control control.DropBase h = left_not _ h
  refused_control control.Mark h = mark_not _ h
  refused_control control.TakeBase h = cc
  refused_control control.NextFront h = cc
  refused_control control.ClearDead h = cc
  refused_control control.AddBias h = cc
  refused_control control.OpenNext h = cc
  refused_control (control.StoreWord k v) h = cc
  refused_control (control.Join k) h = cc
  refused_control control.LookShared h = cc

  refused_dead : (e : Event) → reply (kept m) e ≡ Refused → m.cells.shared.dead ≡ true
  refused_dead (Pass k e) h = refused_pass e h
  refused_dead (Control e) h = refused_control e h

  refused_zero : (e : Event) (r : Reply) → r ≡ reply (kept m) e → IsTryRefused (e, r) → m.cells.shared.zero ≡ true
  refused_zero (Pass k pass.AddTry) Refused is h = if_refused m.cells.shared.zero (sym is)
  refused_zero e r is h = absurd h

abbrev IsGranted : Reply → Type 0
IsGranted r = r ≡ Refused → ⊥

abbrev IsTryGranted : Event × Reply → Type 0
IsTryGranted x = IsTryRefused x → ⊥

-- a gate that didn't start dead refused nobody without a kill, and no try for any gate without a release
never_refused : (o : Origin) (m : Snapshot) → Holds o m → o.dead ≡ false → (events : List Event) (replies : List Reply) (last : State) → Run (kept m) events replies last → last.control.kills ≡ o.kills
    → All IsGranted replies
never_refused o m l live [] [] last run none = All-nil IsGranted
never_refused o m l live [] (r ∷ rs) last run none = absurd run
never_refused o m l live (e ∷ es) [] last run none = absurd run
never_refused o m l live (e ∷ es) (r ∷ rs) last run none = let goes = event_goes o m l e run.0 in
    All-cons IsGranted r rs (λ is. let dead = ap count (refused_dead o m l e (sym run.1 ∙ is)) in let start = ap count live in let kills = l.release.kills in
    let more = kills_along (kept m) (e ∷ es) (r ∷ rs) last run in absurd (omega arith))
    (never_refused o (snapshot_after m e) goes.0 live es rs last (subst (λ (s : State). Run s es rs last) (sym goes.1) run.2) none)

never_tried : (o : Origin) (m : Snapshot) → Holds o m → o.dead ≡ false → (events : List Event) (replies : List Reply) (last : State) → Run (kept m) events replies last → last.releases ≡ 0
    → All IsTryGranted (zip events replies)
never_tried o m l live [] replies last run none = All-nil IsTryGranted
never_tried o m l live (e ∷ es) [] last run none = absurd run
never_tried o m l live (e ∷ es) (r ∷ rs) last run none = let goes = event_goes o m l e run.0 in
    All-cons IsTryGranted (e, r) (zip es rs) (λ is. let zero = ap count (refused_zero o m l e r run.1 is) in let start = ap count live in let releases = l.release.releases in
    let more = won_along (kept m) (e ∷ es) (r ∷ rs) last run in absurd (omega arith))
    (never_tried o (snapshot_after m e) goes.0 live es rs last (subst (λ (s : State). Run s es rs last) (sym goes.1) run.2) none)

pub runs_lose_nothing : RunsLoseNothing
runs_lose_nothing o events replies last reach over = let m : Snapshot = snapshot_after_all (first_snapshot o) events in let h = laws_always o events replies last reach in
    let start : Run (kept (first_snapshot o)) events replies last = subst (λ (s : State). Run s events replies last) (sym (first_kept o)) reach.run in
    let first : Holds (origin_of o) (first_snapshot o) = first_lawful o reach.within in
    let over' : IsOver (kept m) = subst IsOver (sym h.1) over in let zero = zero_is (origin_of o) m h.0 over' in
    let won = won_along (first_state o) events replies last reach.run in let less = few (origin_of o) m h.0 in let law = h.0.release.releases in
    let cleared = zeros_are (origin_of o) (first_snapshot o) first events replies last start in
    let same = ap (λ (s : State). zeros_cleared s events) (first_kept o) in let zeros = ap count zero in
    let releases = ap (λ (s : State). s.releases) h.1 in let kills = ap (λ (s : State). s.control.kills) h.1 in
    let dead = ap (λ (s : State). count (is_phase Dead s.control.phase)) h.1 in record {
      at_zero = subst (λ (s : State). s.cells.shared.zero ≡ is_phase Dead s.control.phase) h.1 zero;
      told = omega arith;
      releases = omega arith;
      at_most = omega arith;
      never_killed = λ live none. never_refused (origin_of o) (first_snapshot o) first live events replies last start none;
      never_released = λ live none. never_tried (origin_of o) (first_snapshot o) first live events replies last start none;
    }
