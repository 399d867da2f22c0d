-- An enabled event keeps the laws: what the tests say, handed to the lemma of each event.
use Rattle.std.proofs.Common.{◌≡◌, ℕ, ◌<◌, ◌≤◌, Bool, true, false, not, ◌||◌, ◌&&◌, cond, nat_lt, nat_le, List, [], ◌∷◌, set, Option, Some, None, refl, arith}
use Rattle.std.specs.Prelude.{find, ℤ, pos, ◌+ℤ◌, ◌-ℤ◌, ◌==◌}
use Rattle.std.specs.List.{AllByRecursion}
use Rattle.std.proofs.lemmas.Bool.Decides.{nat_tests}
use mathlib.Core.Option.{some}
use lib.ListN.{get_elem?}
use Rattle.percpu_core.specs.declared.pass_event.PassEvent.{PassEvent}
use Rattle.percpu_core.specs.declared.pass_event.PassEvent.TheVariants as pass
use Rattle.percpu_core.specs.declared.control_event.ControlEvent.{ControlEvent}
use Rattle.percpu_core.specs.declared.control_event.ControlEvent.TheVariants as control
use Rattle.percpu_core.specs.declared.phase.Phase.{Phase}
use Rattle.percpu_core.specs.declared.phase.Phase.TheVariants.{LiveSlots, LiveAtomic, Closing, Collected, Confirmed, Dead, Reviving, Fronted, Opening}
use Rattle.percpu_core.specs.declared.not_enabled.NotEnabled.{NotEnabled}
use Rattle.percpu_core.specs.declared.not_enabled.NotEnabled.TheVariants.{NoSuchActor, NoSuchSlot, WrongPhase, NothingHeld, MidCall, HeldFull, WornOut, NoSuchWord, BadAmount, StillHeld}
use Rattle.percpu_core.specs.declared.pass_standing.Pending.{Pending}
use Rattle.percpu_core.specs.declared.pass_standing.Pending.TheVariants.{Nothing, OneToUndo, ZeroToMark}
use Rattle.percpu_core.specs.declared.pass_standing.PassStanding.{PassStanding}
use Rattle.percpu_core.specs.declared.view.PassView.{PassView}
use Rattle.percpu_core.specs.declared.view.ControlView.{ControlView}
use Rattle.percpu_core.specs.declared.view.View.{View}
use Rattle.percpu_core.specs.declared.view.View.TheVariants.{OfPass, Spent}
use Rattle.percpu_core.specs.Cells.{Cells, sizes_of}
use Rattle.percpu_core.specs.ReleaseLaw.{Origin}
use Rattle.percpu_core.specs.Laws.{Laws}
use Rattle.percpu_words.specs.SlotWord.{IsDelta}
use Rattle.percpu_core.specs.Phases.{is_phase, is_live}
use Rattle.percpu_core.specs.PassSteps.{is_mid_call, is_out_of_turn, is_delta, hinders_pass}
use Rattle.percpu_core.specs.ControlSteps.{is_nothing, hinders_control}
use Rattle.percpu_core.specs.ControlLearns.{joined}
use Rattle.percpu_core.specs.Machine.{order, IsEnabled}
use Rattle.percpu_core.proofs.PassEvents as passes
use Rattle.percpu_core.proofs.SlotEvents as slots
use Rattle.percpu_core.proofs.ControlSetting.{After}
use Rattle.percpu_core.proofs.KillEvents as kills
use Rattle.percpu_core.proofs.RevivalEvents as revivals
use Rattle.percpu_core.proofs.SwitchEvents as switches
use Rattle.percpu_core.proofs.Joining.{join}

first_not : {X : Type 0} (b : Bool) (x : X) (r : Option X) → cond b (Some x) r ≡ None → (b ≡ false) × (r ≡ None)
first_not true x r e = cc
first_not false x r e = (refl, e)

-- if no reason was found, none holds
none_found : {X : Type 0} (p : X → Bool) (xs : List X) → find p xs ≡ None → AllByRecursion (λ x. p x ≡ false) xs
none_found p [] e = tt
none_found p (x ∷ xs) e = let h = first_not (p x) x (find p xs) e in (h.0, none_found p xs h.1)

-- if an event is enabled no reason holds against it
pub no_reason : (p : NotEnabled → Bool) → IsEnabled p → (why : NotEnabled) → p why ≡ false
no_reason p h NoSuchActor = (none_found p order h).0
no_reason p h NoSuchSlot = (none_found p order h).1.0
no_reason p h NoSuchWord = (none_found p order h).1.1.0
no_reason p h MidCall = (none_found p order h).1.1.1.0
no_reason p h WrongPhase = (none_found p order h).1.1.1.1.0
no_reason p h NothingHeld = (none_found p order h).1.1.1.1.1.0
no_reason p h BadAmount = (none_found p order h).1.1.1.1.1.1.0
no_reason p h HeldFull = (none_found p order h).1.1.1.1.1.1.1.0
no_reason p h StillHeld = (none_found p order h).1.1.1.1.1.1.1.1.0
no_reason p h WornOut = (none_found p order h).1.1.1.1.1.1.1.1.1.0

pub not_lt : (m n : ℕ) → nat_lt m n ≡ false → n ≤ m
not_lt m n e = grind (arith, nat_tests)

pub not_le : (m n : ℕ) → nat_le m n ≡ false → n < m
not_le m n e = grind (arith, nat_tests)

pub idle : (e : PassEvent) → is_mid_call OneToUndo e ≡ true → is_mid_call ZeroToMark e ≡ true → (q : Pending) → is_mid_call q e ≡ false → q ≡ Nothing
idle e u m Nothing h = refl
idle e u m OneToUndo h = cc
idle e u m ZeroToMark h = cc

pub owes_undo : (q : Pending) → is_mid_call q pass.Undo ≡ false → is_out_of_turn q pass.Undo ≡ false → q ≡ OneToUndo
owes_undo Nothing h g = cc
owes_undo OneToUndo h g = refl
owes_undo ZeroToMark h g = cc

pub owes_mark : (q : Pending) → is_mid_call q pass.Mark ≡ false → is_out_of_turn q pass.Mark ≡ false → q ≡ ZeroToMark
owes_mark Nothing h g = cc
owes_mark OneToUndo h g = cc
owes_mark ZeroToMark h g = refl

-- an exchange that is no bad amount leaves a delta within its limit
pub good_amount : (b : Bool) (d e : ℤ) → (b || not (is_delta d && is_delta e)) ≡ false → IsDelta e
good_amount true d e h = cc
good_amount false d e h = within e (and_right (is_delta d) (is_delta e) h)
  where
    and_right : (a b : Bool) → not (a && b) ≡ false → b ≡ true
    and_right true true h = refl
    and_right true false h = cc
    and_right false b h = cc

    within : (e : ℤ) → is_delta e ≡ true → IsDelta e
    within e h = grind (arith, nat_tests)

module _ (o : Origin) (cells : Cells) (c : ControlView) (vs : List View) (l : Laws o cells c vs) (i : ℕ) (p : PassView) (at : get_elem? vs i ≡ some (OfPass p)) where
  -- no reason holds against the pass's step
  free : (e : PassEvent) → IsEnabled (hinders_pass (sizes_of cells) p.standing e) → (why : NotEnabled) → hinders_pass (sizes_of cells) p.standing e why ≡ false
  free e h why = no_reason (hinders_pass (sizes_of cells) p.standing e) h why

  pub pass_keeps_laws : (e : PassEvent) → IsEnabled (hinders_pass (sizes_of cells) p.standing e) → passes.After o cells c vs l i p at e
  pass_keeps_laws pass.AddTry h = let n = free pass.AddTry h in
      passes.add_try o cells c vs l i p at (idle pass.AddTry refl refl p.standing.pending (n MidCall)) (not_lt _ _ (n HeldFull))
  pass_keeps_laws pass.AddLive h = let n = free pass.AddLive h in
      passes.add_live o cells c vs l i p at (idle pass.AddLive refl refl p.standing.pending (n MidCall)) (not_lt _ _ (n HeldFull))
  pass_keeps_laws (pass.AddGet k) h = let n = free (pass.AddGet k) h in
      passes.add_get o cells c vs l i p at k (idle (pass.AddGet k) refl refl p.standing.pending (n MidCall)) (not_lt _ _ (n NothingHeld)) (not_lt _ _ (n HeldFull))
  pass_keeps_laws (pass.Sub k) h = let n = free (pass.Sub k) h in
      passes.sub o cells c vs l i p at k (idle (pass.Sub k) refl refl p.standing.pending (n MidCall)) (not_lt _ _ (n NothingHeld))
  pass_keeps_laws pass.Undo h = let n = free pass.Undo h in passes.undo o cells c vs l i p at (owes_undo p.standing.pending (n MidCall) (n WrongPhase))
  pass_keeps_laws pass.Mark h = let n = free pass.Mark h in passes.mark o cells c vs l i p at (owes_mark p.standing.pending (n MidCall) (n WrongPhase))
  pass_keeps_laws (pass.Look s) h = let n = free (pass.Look s) h in slots.look o cells c vs l i p at (idle (pass.Look s) refl refl p.standing.pending (n MidCall)) s
  pass_keeps_laws (pass.Take s d k) h = let n = free (pass.Take s d k) h in
      slots.take o cells c vs l i p at (idle (pass.Take s d k) refl refl p.standing.pending (n MidCall)) s d (not_le _ _ (n NoSuchSlot)) k (good_amount (k == 0) d (d +ℤ pos k) (n BadAmount)) (not_lt _ _ (n HeldFull))
  pass_keeps_laws (pass.Give s d k) h = let n = free (pass.Give s d k) h in
      slots.give o cells c vs l i p at (idle (pass.Give s d k) refl refl p.standing.pending (n MidCall)) s d (not_le _ _ (n NoSuchSlot)) k (good_amount (k == 0) d (d -ℤ pos k) (n BadAmount)) (not_lt _ _ (n NothingHeld))
  pass_keeps_laws pass.LookShared h = let n = free pass.LookShared h in passes.look_shared o cells c vs l i p at (idle pass.LookShared refl refl p.standing.pending (n MidCall))
  pass_keeps_laws pass.LoadFront h = let n = free pass.LoadFront h in passes.load_front o cells c vs l i p at (idle pass.LoadFront refl refl p.standing.pending (n MidCall))
  pass_keeps_laws (pass.LoadWord k) h = let n = free (pass.LoadWord k) h in
      passes.load_word o cells c vs l i p at k (idle (pass.LoadWord k) refl refl p.standing.pending (n MidCall)) (not_lt _ _ (n NothingHeld)) (not_le _ _ (n NoSuchWord))

pub neither : (a b : Bool) → (a || b) ≡ false → (a ≡ false) × (b ≡ false)
neither true b e = cc
neither false b e = (refl, e)

pub both_hold : (a b : Bool) → not (a && b) ≡ false → (not a ≡ false) × (b ≡ true)
both_hold true true e = (refl, refl)
both_hold true false e = cc
both_hold false b e = cc

-- the two phases are one if the test says so
pub only : (x y : Phase) → not (is_phase x y) ≡ false → y ≡ x
only LiveSlots LiveSlots h = refl
only LiveAtomic LiveAtomic h = refl
only Collected Collected h = refl
only Confirmed Confirmed h = refl
only Dead Dead h = refl
only Reviving Reviving h = refl
only Fronted Fronted h = refl
only _ _ h = cc

pub live : {P : Type 0} (y : Phase) → (y ≡ LiveAtomic → P) → (y ≡ LiveSlots → P) → not (is_live y) ≡ false → P
live LiveSlots f g h = g refl
live LiveAtomic f g h = f refl
live (Closing i) f g h = cc
live Collected f g h = cc
live Confirmed f g h = cc
live Dead f g h = cc
live Reviving f g h = cc
live Fronted f g h = cc
live (Opening i) f g h = cc

module _ (o : Origin) (cells : Cells) (c : ControlView) (vs : List View) (l : Laws o cells c vs) where
  -- no reason holds against the control's step
  abbrev Free : Option PassStanding → ControlEvent → Type 0
  Free q e = IsEnabled (hinders_control (sizes_of cells) cells.shared.zero q c.standing e)

  unhindered : (q : Option PassStanding) (e : ControlEvent) → Free q e → (why : NotEnabled) → hinders_control (sizes_of cells) cells.shared.zero q c.standing e why ≡ false
  unhindered q e h why = no_reason (hinders_control (sizes_of cells) cells.shared.zero q c.standing e) h why

  pub control_keeps_laws : (e : ControlEvent) → ((k : ℕ) → e ≡ control.Join k → ⊥) → Free None e → After o cells c vs l e
  control_keeps_laws control.MarkDead j h = let n = unhindered None control.MarkDead h in let few = not_le _ _ (n WornOut) in
      live c.standing.phase (λ is. kills.mark_dead_atomic o cells c vs l is few) (λ is. kills.mark_dead_slots o cells c vs l is few) (n WrongPhase)
  control_keeps_laws control.Close j h = let n = unhindered None control.Close h in switches.close o cells c vs l (n WrongPhase) (neither _ _ (n MidCall)).0
  control_keeps_laws control.Collect j h = let n = unhindered None control.Collect h in switches.collect o cells c vs l (n WrongPhase) (neither _ _ (n MidCall)).0
  control_keeps_laws control.AddBias j h = let n = unhindered None control.AddBias h in switches.add_bias o cells c vs l (only LiveAtomic c.standing.phase (n WrongPhase)) (neither _ _ (n MidCall)).0
  control_keeps_laws control.OpenNext j h = let n = unhindered None control.OpenNext h in switches.open_next o cells c vs l (n WrongPhase) (neither _ _ (n MidCall)).0
  control_keeps_laws control.Confirm j h = let n = unhindered None control.Confirm h in kills.confirm o cells c vs l (only Collected c.standing.phase (n WrongPhase)) (neither _ _ (n MidCall)).0
  control_keeps_laws control.DropBase j h = let n = unhindered None control.DropBase h in kills.drop_base o cells c vs l (only Confirmed c.standing.phase (n WrongPhase))
  control_keeps_laws control.Mark j h = kills.mark o cells c vs l
  control_keeps_laws control.TakeBase j h = let n = unhindered None control.TakeBase h in revivals.take_base o cells c vs l (only Dead c.standing.phase (n WrongPhase))
  control_keeps_laws control.NextFront j h = let n = unhindered None control.NextFront h in revivals.next_front o cells c vs l (only Reviving c.standing.phase (n WrongPhase)) (neither _ _ (n MidCall)).0
  control_keeps_laws control.ClearDead j h = let n = unhindered None control.ClearDead h in revivals.clear_dead o cells c vs l (only Fronted c.standing.phase (n WrongPhase))
  control_keeps_laws (control.StoreWord k v) j h = let n = unhindered None (control.StoreWord k v) h in let both = both_hold (is_phase Dead c.standing.phase) cells.shared.zero (n WrongPhase) in
      revivals.store_word o cells c vs l k v (only Dead c.standing.phase both.0) both.1 (neither _ _ (n MidCall)).0
  control_keeps_laws (control.Join k) j h = absurd (j k refl)
  control_keeps_laws control.LookShared j h = let n = unhindered None control.LookShared h in revivals.look_shared o cells c vs l (neither _ _ (n MidCall)).0

  pub nothing : (q : Pending) → not (is_nothing q) ≡ false → q ≡ Nothing
  nothing Nothing h = refl
  nothing OneToUndo h = cc
  nothing ZeroToMark h = cc

  pub join_keeps_laws : (k : ℕ) (p : PassView) → get_elem? vs k ≡ some (OfPass p) → Free (Some p.standing) (control.Join k) → Laws o cells (joined c p) (set vs k Spent)
  join_keeps_laws k p at h = let n = unhindered (Some p.standing) (control.Join k) h in
      join o cells c vs l k p at (let none = not_lt 0 p.standing.held (n StillHeld) in omega arith) (nothing p.standing.pending (neither _ _ (n MidCall)).1)
