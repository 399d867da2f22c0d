-- Each event of a pass keeps the laws: one lemma for each, whose premises speak of the pass's own view.
use Rattle.std.proofs.Common.{◌≡◌, ℕ, zero, suc, ◌+◌, ◌%◌, ◌<◌, ◌≤◌, inl, inr, Bool, true, false, ◌||◌, if◌then◌else◌, ◌==◌, List, [], ◌∷◌, length, set, refl, arith, ap, sym, ◌∙◌}
use Rattle.std.specs.Prelude.{slice_index, slice_get, Some}
use Rattle.std.proofs.lemmas.Bool.Decides.{nat_tests}
use mathlib.Core.Option.{some}
use lib.ListN.{get_elem?}
use Rattle.percpu_core.specs.declared.pass_event.PassEvent.{PassEvent}
use Rattle.percpu_core.specs.declared.pass_event.PassEvent.TheVariants.{AddTry, AddLive, AddGet, Sub, Undo, Mark, LookShared, LoadFront, LoadWord}
use Rattle.percpu_core.specs.declared.reply.Reply.{Reply}
use Rattle.percpu_core.specs.declared.reply.Reply.TheVariants.{Given, Refused, NotLast, ToMark, Last, Lost}
use Rattle.percpu_core.specs.declared.pass_standing.Pending.TheVariants.{Nothing, OneToUndo, ZeroToMark}
use Rattle.percpu_core.specs.declared.view.WordRead.{WordRead}
use Rattle.percpu_core.specs.declared.view.PassView.{PassView}
use Rattle.percpu_core.specs.declared.view.ControlView.{ControlView}
use Rattle.percpu_core.specs.declared.view.View.{View}
use Rattle.percpu_core.specs.declared.view.View.TheVariants.{OfPass}
use Rattle.percpu_core.specs.declared.phase.Phase.{Phase}
use Rattle.percpu_core.specs.declared.phase.Phase.TheVariants.{LiveSlots, LiveAtomic, Closing, Collected, Confirmed, Dead, Reviving, Fronted, Opening}
use Rattle.percpu_words.specs.SharedWord.{SharedWord}
use Rattle.percpu_core.specs.Cells.{Cells, is_dead_alone}
use Rattle.percpu_core.specs.Phases.{is_dead_in, may_be_zero, has_odd_front}
use Rattle.percpu_core.specs.Views.{count, to_undo, to_mark}
use Rattle.percpu_core.specs.GuardLaw.{AreNow}
use Rattle.percpu_core.specs.ReleaseLaw.{Origin}
use Rattle.percpu_core.specs.declared.limits.TheConstants.{HELD_LIMIT}
use Rattle.percpu_core.specs.Laws.{Laws}
use Rattle.percpu_core.specs.PassSteps.{plus, minus, shared_after_pass, slots_after_pass, cells_after_pass, standing_after, pending_after, given, dropped}
use Rattle.percpu_core.specs.PassLearns.{next_even, begun, front_loads_after, live_given_after, looks_after, times_after, pass_view_after}
use Rattle.percpu_core.specs.Machine.{won}
use Rattle.percpu_core.proofs.Passes.{over_passes-at, EachPass-at}
use Rattle.percpu_core.proofs.Counting.{value-least}
use Rattle.percpu_core.proofs.Flags.{or_right, or_false}
use Rattle.percpu_core.proofs.PassKeeps.{PassChange, alone, on_shared, pass_keeps}

flag_found : (a b : Bool) (n : ℕ) → (a ≡ true → 1 ≤ n + count b) → (a || b) ≡ true → 1 ≤ n + count b
flag_found a true n h e = omega arith
flag_found true false n h e = h refl
flag_found false false n h e = cc

-- reading begins anew if nothing was held
begun_by : (b : Bool) (words : List ℕ) (held : ℕ) (read : List WordRead) → (held == 0) ≡ b → (0 < held → AreNow words read) → AreNow words (if b then [] else read)
begun_by true words held read e h = tt
begun_by false words held read e h = h (grind (arith, nat_tests))

pub begins : (words : List ℕ) (held : ℕ) (read : List WordRead) → (0 < held → AreNow words read) → AreNow words (if held == 0 then [] else read)
begins words held read h = begun_by (held == 0) words held read refl h

left_marks : (b : Bool) → b ≡ true → to_mark (pending_after (if b then ToMark else NotLast)) ≡ 1
left_marks true e = refl
left_marks false e = cc

left_undoes : (b : Bool) → to_undo (pending_after (if b then ToMark else NotLast)) ≡ 0
left_undoes true = refl
left_undoes false = refl

pub left_wins : (b : Bool) → won (if b then ToMark else NotLast) ≡ 0
left_wins true = refl
left_wins false = refl

pub false_or : (a : Bool) → (a || false) ≡ true → a ≡ true
false_or true e = refl
false_or false e = e

alone_again : (s : SharedWord) → is_dead_alone (record s { zero = s.zero || false }) ≡ true → is_dead_alone s ≡ true
alone_again s h = rw or_false at h

word_there : (words : List ℕ) (k : ℕ) → k < length words → slice_get words k ≡ Some (slice_index words k)
word_there [] k h = absurd (omega arith)
word_there (x ∷ xs) zero h = refl
word_there (x ∷ xs) (suc k) h = word_there xs k (omega arith)

pub even_front : (phase : Phase) (k : Bool) → is_dead_in phase k ≡ false → has_odd_front phase ≡ false
even_front LiveSlots k h = refl
even_front LiveAtomic k h = refl
even_front (Closing i) k h = refl
even_front Collected k h = cc
even_front Confirmed k h = cc
even_front Dead k h = cc
even_front Reviving k h = cc
even_front Fronted k h = cc
even_front (Opening i) k h = refl

pub zero_dead : (phase : Phase) (k : Bool) → may_be_zero phase ≡ true → is_dead_in phase k ≡ true
zero_dead LiveSlots k h = cc
zero_dead LiveAtomic k h = cc
zero_dead (Closing i) k h = cc
zero_dead Collected k h = cc
zero_dead Confirmed k h = cc
zero_dead Dead k h = refl
zero_dead Reviving k h = refl
zero_dead Fronted k h = refl
zero_dead (Opening i) k h = cc

module _ (o : Origin) (cells : Cells) (c : ControlView) (vs : List View) (l : Laws o cells c vs) (i : ℕ) (p : PassView) (at : get_elem? vs i ≡ some (OfPass p)) where
  -- the laws after the step
  abbrev pub After : PassEvent → Type 0
  After e = Laws o (cells_after_pass e cells) c (set vs i (OfPass (pass_view_after e cells p)))

  abbrev pub Change : PassEvent → Type 0
  Change e = PassChange cells c p (shared_after_pass e cells.shared) (slots_after_pass e cells.slots) (pass_view_after e cells p)

  pub keeps : (e : PassEvent) → Change e → After e
  keeps e g = pass_keeps o cells c vs l i p (pass_view_after e cells p) (shared_after_pass e cells.shared) (slots_after_pass e cells.slots) at g

  -- ZERO comes with DEAD
  pub zero_is_dead : cells.shared.zero ≡ true → cells.shared.dead ≡ true
  zero_is_dead z = l.phase.dead ∙ zero_dead c.standing.phase c.killing (l.zero.after_drop z)

  pub read_now : 0 < p.standing.held → AreNow cells.words p.read
  read_now = EachPass-at _ vs i (OfPass p) l.guard.passes at

  pub floors : (p.floor ≤ cells.front) × (p.seen_front ≤ p.floor)
  floors = EachPass-at _ vs i (OfPass p) l.front.floors at

  pub room : p.standing.held ≤ HELD_LIMIT
  room = EachPass-at _ vs i (OfPass p) l.limit.held at

  pub dead_found : p.found_dead ≡ true → 1 ≤ c.revivals + count cells.shared.dead
  dead_found = EachPass-at _ vs i (OfPass p) l.release.found_dead at

  pub zero_found : p.found_zero ≡ true → 1 ≤ c.zeros_cleared + count cells.shared.zero
  zero_found = EachPass-at _ vs i (OfPass p) l.release.found_zero at

  dead_looked : (p.found_dead || cells.shared.dead) ≡ true → 1 ≤ c.revivals + count cells.shared.dead
  dead_looked = flag_found p.found_dead cells.shared.dead c.revivals dead_found

  zero_looked : (p.found_zero || cells.shared.zero) ≡ true → 1 ≤ c.zeros_cleared + count cells.shared.zero
  zero_looked = flag_found p.found_zero cells.shared.zero c.zeros_cleared zero_found

  -- what the pass holds, and what it is to undo, is in the shared value
  pub held_in_value : p.standing.held ≤ cells.shared.value
  held_in_value = let mine = over_passes-at (λ p. p.standing.held) vs i (OfPass p) at in let least = value-least o cells c vs l in omega arith

  pub undo_in_value : to_undo p.standing.pending ≤ cells.shared.value
  undo_in_value = let mine = over_passes-at (λ p. to_undo p.standing.pending) vs i (OfPass p) at in let least = value-least o cells c vs l in omega arith

  raised : (d : Bool) → cells.shared.dead ≡ d → (if d then p.floor else next_even p.floor) ≤ cells.front
  raised true e = floors.0
  raised false e = let low = floors.0 in let odd : cells.front % 2 ≡ 0 = l.front.parity ∙ ap count (even_front c.standing.phase c.killing (sym l.phase.dead ∙ e)) in omega arith

  raised_seen : (d : Bool) → p.seen_front ≤ (if d then p.floor else next_even p.floor)
  raised_seen true = floors.1
  raised_seen false = let low = floors.1 in omega arith

  -- what a try with this reply leaves
  abbrev tried : PassEvent → Reply → ℕ → PassView
  tried e r floor = record {
    standing = standing_after e r p.standing;
    read = begun p;
    seen_front = p.seen_front;
    floor = floor;
    front_loads = front_loads_after e p;
    live_given = live_given_after e cells p;
    looks = looks_after e p;
    found_dead_times = times_after e cells.shared.dead p.found_dead_times;
    found_zero_times = times_after e cells.shared.zero p.found_zero_times;
    releases = p.releases + won r;
    found_dead = p.found_dead || cells.shared.dead;
    found_zero = p.found_zero || cells.shared.zero;
  }

  -- a try adds 1, and holds it unless it is refused
  try_change : (e : PassEvent) (b : Bool) → (b ≡ false → cells.shared.zero ≡ false) → (given e Given ≡ 1) → (given e Refused ≡ 0) → (dropped e Given ≡ 0) → (dropped e Refused ≡ 0) → p.standing.pending ≡ Nothing → p.standing.held + 1 ≤ HELD_LIMIT
      → (floor : ℕ) → floor ≤ cells.front → p.seen_front ≤ floor
      → PassChange cells c p (plus 1 cells.shared) cells.slots (tried e (if b then Refused else Given) floor)
  try_change e true finds g r d dr idle fits floor low seen = let none : to_undo p.standing.pending ≡ 0 = ap to_undo idle in record {
    counts = on_shared o cells c vs l p (tried e Refused floor) (plus 1 cells.shared) (omega arith);
    dead = refl;
    zero = inl (refl, omega arith, λ k. omega arith);
    mark = λ h. let none_there = (alone (plus 1 cells.shared) h).2 in absurd (omega arith);
    read = λ h. begins cells.words p.standing.held p.read read_now;
    floor = low;
    seen_front = seen;
    room = omega arith;
    found_dead = dead_looked;
    found_zero = zero_looked;
  }
  try_change e false finds g r d dr idle fits floor low seen = let none : to_undo p.standing.pending ≡ 0 = ap to_undo idle in let clear = finds refl in record {
    counts = on_shared o cells c vs l p (tried e Given floor) (plus 1 cells.shared) (omega arith);
    dead = refl;
    zero = inl (refl, omega arith, λ k. cc);
    mark = λ h. let none_there = (alone (plus 1 cells.shared) h).2 in absurd (omega arith);
    read = λ h. begins cells.words p.standing.held p.read read_now;
    floor = low;
    seen_front = seen;
    room = omega arith;
    found_dead = dead_looked;
    found_zero = zero_looked;
  }

  pub add_try : p.standing.pending ≡ Nothing → p.standing.held + 1 ≤ HELD_LIMIT → After AddTry
  add_try idle fits = keeps AddTry (try_change AddTry cells.shared.zero (λ h. h) refl refl refl refl idle fits p.floor floors.0 floors.1)

  clear_zero : cells.shared.dead ≡ false → cells.shared.zero ≡ false
  clear_zero d = by_zero cells.shared.zero refl
    where
      by_zero : (z : Bool) → cells.shared.zero ≡ z → z ≡ false
      by_zero true e = let set = zero_is_dead e in cc
      by_zero false e = refl

  pub add_live : p.standing.pending ≡ Nothing → p.standing.held + 1 ≤ HELD_LIMIT → After AddLive
  add_live idle fits = keeps AddLive (try_change AddLive cells.shared.dead clear_zero refl refl refl refl idle fits _ (raised cells.shared.dead refl) (raised_seen cells.shared.dead))

  pub add_get : (n : ℕ) → p.standing.pending ≡ Nothing → 1 ≤ p.standing.held → p.standing.held + n ≤ HELD_LIMIT → After (AddGet n)
  add_get n idle holds fits = keeps (AddGet n) (let none : to_undo p.standing.pending ≡ 0 = ap to_undo idle in let in_value = held_in_value in record {
    counts = on_shared o cells c vs l p (pass_view_after (AddGet n) cells p) (shared_after_pass (AddGet n) cells.shared) (omega arith);
    dead = refl;
    zero = inl (refl, omega arith, λ z. let nothing = l.zero.nothing_held z in let mine = over_passes-at (λ p. p.standing.held) vs i (OfPass p) at in absurd (omega arith));
    mark = λ h. let none_there = (alone (plus n cells.shared) h).2 in absurd (omega arith);
    read = λ h. read_now holds;
    floor = floors.0;
    seen_front = floors.1;
    room = omega arith;
    found_dead = λ h. dead_found (false_or p.found_dead h);
    found_zero = λ h. zero_found (false_or p.found_zero h);
  })

  pub sub : (n : ℕ) → p.standing.pending ≡ Nothing → n ≤ p.standing.held → After (Sub n)
  sub n idle holds = keeps (Sub n) (let none : to_undo p.standing.pending ≡ 0 = ap to_undo idle in let in_value = held_in_value in let b : Bool = is_dead_alone (minus n cells.shared) in
      let undoes = left_undoes b in let wins = left_wins b in let most = room in record {
        counts = on_shared o cells c vs l p (pass_view_after (Sub n) cells p) (shared_after_pass (Sub n) cells.shared) (omega arith);
        dead = refl;
        zero = inl (refl, omega arith, λ z. omega arith);
        mark = λ h. inl (left_marks b h);
        read = λ h. read_now (omega arith);
        floor = floors.0;
        seen_front = floors.1;
        room = omega arith;
        found_dead = λ h. dead_found (false_or p.found_dead h);
        found_zero = λ h. zero_found (false_or p.found_zero h);
      })

  pub undo : p.standing.pending ≡ OneToUndo → After Undo
  undo owes = keeps Undo (let one : to_undo p.standing.pending ≡ 1 = ap to_undo owes in let in_value = undo_in_value in let b : Bool = is_dead_alone (minus 1 cells.shared) in
      let undoes = left_undoes b in let wins = left_wins b in let most = room in record {
        counts = on_shared o cells c vs l p (pass_view_after Undo cells p) (shared_after_pass Undo cells.shared) (omega arith);
        dead = refl;
        zero = inl (refl, omega arith, λ z. omega arith);
        mark = λ h. inl (left_marks b h);
        read = λ h. read_now (omega arith);
        floor = floors.0;
        seen_front = floors.1;
        room = omega arith;
        found_dead = λ h. dead_found (false_or p.found_dead h);
        found_zero = λ h. zero_found (false_or p.found_zero h);
      })

  abbrev mark_view : Reply → PassView
  mark_view r = record (pass_view_after Mark cells p) { standing = standing_after Mark r p.standing; releases = p.releases + won r }

  mark_change : (b : Bool) → is_dead_alone cells.shared ≡ b → p.standing.pending ≡ ZeroToMark
      → PassChange cells c p (record cells.shared { zero = cells.shared.zero || b }) cells.slots (mark_view (if b then Last else Lost))
  mark_change true is owes = let none : to_undo p.standing.pending ≡ 0 = ap to_undo owes in let most = room in let set = or_right cells.shared.zero in record {
    counts = on_shared o cells c vs l p (mark_view Last) (record cells.shared { zero = cells.shared.zero || true }) (omega arith);
    dead = refl;
    zero = inr (set, is, omega arith, omega arith);
    mark = λ h. let clear : (cells.shared.zero || true) ≡ false = (alone (record cells.shared { zero = cells.shared.zero || true }) h).0 in cc;
    read = λ h. read_now (omega arith);
    floor = floors.0;
    seen_front = floors.1;
    room = omega arith;
    found_dead = λ h. dead_found (false_or p.found_dead h);
    found_zero = λ h. zero_found (false_or p.found_zero h);
  }
  mark_change false is owes = let none : to_undo p.standing.pending ≡ 0 = ap to_undo owes in let most = room in let same = or_false cells.shared.zero in record {
    counts = on_shared o cells c vs l p (mark_view Lost) (record cells.shared { zero = cells.shared.zero || false }) (omega arith);
    dead = refl;
    zero = inl (same, omega arith, λ z. omega arith);
    mark = λ h. let still = alone_again cells.shared h in cc;
    read = λ h. read_now (omega arith);
    floor = floors.0;
    seen_front = floors.1;
    room = omega arith;
    found_dead = λ h. dead_found (false_or p.found_dead h);
    found_zero = λ h. zero_found (false_or p.found_zero h);
  }

  pub mark : p.standing.pending ≡ ZeroToMark → After Mark
  mark owes = keeps Mark (mark_change (is_dead_alone cells.shared) refl owes)

  pub look_shared : p.standing.pending ≡ Nothing → After LookShared
  look_shared idle = keeps LookShared (let none : to_undo p.standing.pending ≡ 0 = ap to_undo idle in let nought : to_mark p.standing.pending ≡ 0 = ap to_mark idle in let most = room in record {
    counts = on_shared o cells c vs l p (pass_view_after LookShared cells p) (shared_after_pass LookShared cells.shared) (omega arith);
    dead = refl;
    zero = inl (refl, omega arith, λ z. omega arith);
    mark = λ h. inr (h, omega arith);
    read = λ h. read_now (omega arith);
    floor = floors.0;
    seen_front = floors.1;
    room = omega arith;
    found_dead = dead_looked;
    found_zero = zero_looked;
  })

  pub load_front : p.standing.pending ≡ Nothing → After LoadFront
  load_front idle = keeps LoadFront (let none : to_undo p.standing.pending ≡ 0 = ap to_undo idle in let nought : to_mark p.standing.pending ≡ 0 = ap to_mark idle in let most = room in record {
    counts = on_shared o cells c vs l p (pass_view_after LoadFront cells p) (shared_after_pass LoadFront cells.shared) (omega arith);
    dead = refl;
    zero = inl (refl, omega arith, λ z. omega arith);
    mark = λ h. inr (h, omega arith);
    read = λ h. read_now (omega arith);
    floor = omega arith;
    seen_front = omega arith;
    room = omega arith;
    found_dead = λ h. dead_found (false_or p.found_dead h);
    found_zero = λ h. zero_found (false_or p.found_zero h);
  })

  pub load_word : (k : ℕ) → p.standing.pending ≡ Nothing → 1 ≤ p.standing.held → k < length cells.words → After (LoadWord k)
  load_word k idle holds there = keeps (LoadWord k) (let none : to_undo p.standing.pending ≡ 0 = ap to_undo idle in let nought : to_mark p.standing.pending ≡ 0 = ap to_mark idle in let most = room in record {
    counts = on_shared o cells c vs l p (pass_view_after (LoadWord k) cells p) (shared_after_pass (LoadWord k) cells.shared) (omega arith);
    dead = refl;
    zero = inl (refl, omega arith, λ z. omega arith);
    mark = λ h. inr (h, omega arith);
    read = λ h. (word_there cells.words k there, read_now holds);
    floor = floors.0;
    seen_front = floors.1;
    room = omega arith;
    found_dead = λ h. dead_found (false_or p.found_dead h);
    found_zero = λ h. zero_found (false_or p.found_zero h);
  })
