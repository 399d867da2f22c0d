-- What a try found and leaves: its count on a slot or by an addition, and what it takes back if it is refused.
use Rattle.std.proofs.Common.{◌≡◌, ℕ, ◌+◌, ◌-◌, ◌%◌, ◌<◌, ◌≤◌, ◌==◌, Bool, true, false, not, ◌||◌, if◌then◌else◌, ◌⊎◌, inl, inr, List, [], refl, ap, sym, ◌∙◌, arith}
use Rattle.percpu_core.specs.declared.pass_event.PassEvent.TheVariants as events
use Rattle.percpu_core.specs.declared.pass_standing.PassStanding.{PassStanding}
use Rattle.percpu_core.specs.declared.pass_standing.Pending.TheVariants.{Nothing, OneToUndo}
use Rattle.percpu_core.specs.declared.reply.Reply.{Reply}
use Rattle.percpu_core.specs.declared.reply.Reply.TheVariants.{Given, Refused}
use Rattle.percpu_core.specs.declared.view.PassView.{PassView}
use Rattle.percpu_core.specs.declared.view.WordRead.{WordRead}
use Rattle.percpu_core.specs.Cells.{Cells, slot_at, is_open}
use Rattle.percpu_core.specs.Machine.{won}
use Rattle.percpu_core.specs.PassSteps.{standing_after}
use Rattle.percpu_core.specs.PassLearns.{next_even}
use Rattle.percpu_core.specs.Views.{count}
use Rattle.percpu_gate.specs.declared.tried.Tried.{Tried}
use Rattle.percpu_gate.specs.Calls.{released, is_refused, taken, to_take_back, after_try, has_dead, has_zero, TryLeaves, TryFinds, LiveTryFinds}
use Rattle.percpu_gate.specs.Counts.{SlotTake, TryAdds, TryCounts, LiveCounts}
use Rattle.percpu_gate.specs.Seats.{GateFacts, PassStep, tried, dead_at, slot_open_at}
use Rattle.percpu_gate.proofs.Known.{moment_knows}
use Rattle.percpu_gate.proofs.SlotCounts.{moment_before}
use Rattle.percpu_gate.proofs.TryMeets.{try_added, live_added, slot_meets, meets_after_loss}

-- what the addition found, by whether the try is given
tried_is : (b found : Bool) → tried b ≡ (if found then Refused else Given) → found ≡ not b
tried_is true true is = cc
tried_is true false is = refl
tried_is false true is = refl
tried_is false false is = cc

unless : (b : Bool) → not b ≡ true → b ≡ false
unless true h = cc
unless false h = refl

as_not : (b : Bool) → not b ≡ false → b ≡ true
as_not true h = refl
as_not false h = cc

pub try_finds : {g : GateFacts} (old new : PassView) (b : Bool) (r : Tried) → TryCounts g old new b → is_refused r ≡ not b → TryFinds g old r
try_finds old new b r t is = record { moment = t.moment; zero = t.zero ∙ sym is; dead = λ refused. t.dead (unless b (sym is ∙ refused)) }

pub live_try_finds : {g : GateFacts} (slot : ℕ) (old new : PassView) (b : Bool) (r : Tried) → LiveCounts g slot old new b → is_refused r ≡ not b → LiveTryFinds g slot old r
live_try_finds slot old new b r t is = record {
  moment = t.moment;
  refused = λ refused. t.refused (unless b (sym is ∙ refused));
  given = λ given. t.given (as_not b (sym is ∙ given));
  even = λ given. t.even (as_not b (sym is ∙ given));
}

-- a try that found ZERO held nothing
pub refused_at_zero : {g : GateFacts} (old : PassView) (r : Tried) → TryFinds g old r → is_refused r ≡ true → old.standing.held ≡ 0
refused_at_zero old r t refused = (moment_knows old t.moment).none_at_zero (t.zero ∙ refused)

stays : (a b : Bool) → a ≡ true → (a || b) ≡ true
stays true b is = refl
stays false b is = cc

or_found : (a b : Bool) → b ≡ true → (a || b) ≡ true
or_found true b is = refl
or_found false b is = is

-- so a pass that held a reference gets another
pub given_again : {g : GateFacts} (old : PassView) (r : Tried) → TryFinds g old r → 0 < old.standing.held → r ≡ Tried.Given
given_again old Tried.Given t some = refl
given_again old (Tried.Refused r) t some = let none = refused_at_zero old (Tried.Refused r) t refl in absurd (omega arith)

-- the end of a try leaves the floor, and what was found
end_leaves_floor : (mid new : PassView) (r : Tried) → new ≡ after_try r mid → new.floor ≡ mid.floor
end_leaves_floor mid new Tried.Given is = ap (λ (v : PassView). v.floor) is
end_leaves_floor mid new (Tried.Refused r) is = ap (λ (v : PassView). v.floor) is

end_leaves_found : (mid new : PassView) (r : Tried) → new ≡ after_try r mid → (new.found_dead ≡ mid.found_dead) × (new.found_zero ≡ mid.found_zero)
end_leaves_found mid new Tried.Given is = (ap (λ (v : PassView). v.found_dead) is, ap (λ (v : PassView). v.found_zero) is)
end_leaves_found mid new (Tried.Refused r) is = (ap (λ (v : PassView). v.found_dead) is, ap (λ (v : PassView). v.found_zero) is)

-- the pass has found what a refused try found
pub refused_found : {g : GateFacts} (old mid new : PassView) (b : Bool) (r : Tried) → TryCounts g old mid b → new ≡ after_try r mid → is_refused r ≡ not b
    → is_refused r ≡ true → (new.found_dead ≡ true) × (new.found_zero ≡ true)
refused_found old mid new b r t is same refused = let found = t.found (unless b (sym same ∙ refused)) in let end = end_leaves_found mid new r is in (end.0 ∙ found.0, end.1 ∙ found.1)

pub live_refused_found : {g : GateFacts} (slot : ℕ) (old mid new : PassView) (b : Bool) (r : Tried) → LiveCounts g slot old mid b → new ≡ after_try r mid → is_refused r ≡ not b
    → is_refused r ≡ true → new.found_dead ≡ true
live_refused_found slot old mid new b r t is same refused = (end_leaves_found mid new r is).0 ∙ t.found (unless b (sym same ∙ refused))

less_none : (held more : ℕ) → held + more - 0 ≡ held + more
less_none held more = omega arith

stands_after : (b : Bool) (p : PassStanding) → standing_after events.AddTry (tried b) p ≡ record { held = p.held + count b; pending = to_take_back b }
stands_after true p = λ j. record { held = less_none p.held 1 j; pending = Nothing }
stands_after false p = λ j. record { held = less_none p.held 0 j; pending = OneToUndo }

stands_after_live : (b : Bool) (p : PassStanding) → standing_after events.AddLive (tried b) p ≡ record { held = p.held + count b; pending = to_take_back b }
stands_after_live true p = stands_after true p
stands_after_live false p = stands_after false p

wins_none : (b : Bool) (n : ℕ) → n + won (tried b) ≡ n
wins_none true n = omega arith
wins_none false n = omega arith

reads_on : (held : ℕ) (rs : List WordRead) → 0 < held → (if held == 0 then [] else rs) ≡ rs
reads_on held rs some = grind arith

adds_try : {g : GateFacts} (old new : PassView) (b : Bool) → PassStep g events.AddTry old new (tried b) → TryAdds old new b
adds_try old new b s = record {
  standing = ap (λ (v : PassView). v.standing) s.learned ∙ ap (λ (r : Reply). standing_after events.AddTry r old.standing) (sym s.answered) ∙ stands_after b old.standing;
  releases = ap (λ (v : PassView). v.releases) s.learned ∙ ap (λ (r : Reply). old.releases + won r) (sym s.answered) ∙ wins_none b old.releases;
  seen_front = ap (λ (v : PassView). v.seen_front) s.learned;
  front_loads = ap (λ (v : PassView). v.front_loads) s.learned;
  floor = let same : new.floor ≡ old.floor = ap (λ (v : PassView). v.floor) s.learned in omega arith;
  same_floor = λ refused. ap (λ (v : PassView). v.floor) s.learned;
  live_given = let same : new.live_given ≡ old.live_given = ap (λ (v : PassView). v.live_given) s.learned in omega arith;
  read = λ some. ap (λ (v : PassView). v.read) s.learned ∙ reads_on old.standing.held old.read some;
  anew = λ none. ap (λ (v : PassView). v.read) s.learned ∙ ap (λ (held : ℕ). if held == 0 then [] else old.read) none;
  found = (
    λ found. ap (λ (v : PassView). v.found_dead) s.learned ∙ stays old.found_dead s.moment.cells.shared.dead found,
    λ found. ap (λ (v : PassView). v.found_zero) s.learned ∙ stays old.found_zero s.moment.cells.shared.zero found,
  );
}

-- the floor of a try for a live gate
floor_by : (b : Bool) (dead : Bool) (floor : ℕ) → dead ≡ not b → (if dead then floor else next_even floor) ≡ (if not b then floor else next_even floor)
floor_by b dead floor is = ap (λ (d : Bool). if d then floor else next_even floor) is

live_floor : {g : GateFacts} (old new : PassView) (b : Bool) → PassStep g events.AddLive old new (tried b) → new.floor ≡ (if not b then old.floor else next_even old.floor)
live_floor old new b s = ap (λ (v : PassView). v.floor) s.learned ∙ floor_by b s.moment.cells.shared.dead old.floor (tried_is b s.moment.cells.shared.dead s.answered)

rises : (b : Bool) (old new : ℕ) → new ≡ (if not b then old else next_even old) → old ≤ new
rises true old new is = omega arith
rises false old new is = omega arith

live_rises : (dead : Bool) (old new : ℕ) → new ≡ (if dead then old else old + 1) → old ≤ new
live_rises true old new is = omega arith
live_rises false old new is = omega arith

adds_live : {g : GateFacts} (old new : PassView) (b : Bool) → PassStep g events.AddLive old new (tried b) → TryAdds old new b
adds_live old new b s = record {
  standing = ap (λ (v : PassView). v.standing) s.learned ∙ ap (λ (r : Reply). standing_after events.AddLive r old.standing) (sym s.answered) ∙ stands_after_live b old.standing;
  releases = ap (λ (v : PassView). v.releases) s.learned ∙ ap (λ (r : Reply). old.releases + won r) (sym s.answered) ∙ wins_none b old.releases;
  seen_front = ap (λ (v : PassView). v.seen_front) s.learned;
  front_loads = ap (λ (v : PassView). v.front_loads) s.learned;
  floor = rises b old.floor new.floor (live_floor old new b s);
  live_given = live_rises s.moment.cells.shared.dead old.live_given new.live_given (ap (λ (v : PassView). v.live_given) s.learned);
  same_floor = λ refused. live_floor old new b s ∙ ap (λ (x : Bool). if not x then old.floor else next_even old.floor) refused;
  read = λ some. ap (λ (v : PassView). v.read) s.learned ∙ reads_on old.standing.held old.read some;
  anew = λ none. ap (λ (v : PassView). v.read) s.learned ∙ ap (λ (held : ℕ). if held == 0 then [] else old.read) none;
  found = (
    λ found. ap (λ (v : PassView). v.found_dead) s.learned ∙ stays old.found_dead s.moment.cells.shared.dead found,
    λ found. ap (λ (v : PassView). v.found_zero) s.learned ∙ stays old.found_zero s.moment.cells.shared.zero found,
  );
}

-- what a try leaves in all
leaves : (old mid new : PassView) (b : Bool) (r : Tried) → TryAdds old mid b → new ≡ after_try r mid → is_refused r ≡ not b → TryLeaves old new r
leaves old mid new true Tried.Given a is same = record {
  held = ap (λ (v : PassView). v.standing) is ∙ a.standing;
  releases = ap (λ (v : PassView). v.releases) is ∙ a.releases ∙ sym (no_more old.releases);
  seen_front = ap (λ (v : PassView). v.seen_front) is ∙ a.seen_front;
  front_loads = ap (λ (v : PassView). v.front_loads) is ∙ a.front_loads;
  floor = let same_as : new.floor ≡ mid.floor = ap (λ (v : PassView). v.floor) is in let most = a.floor in omega arith;
  same_floor = λ refused. cc;
  live_given = let same_as : new.live_given ≡ mid.live_given = ap (λ (v : PassView). v.live_given) is in let most = a.live_given in omega arith;
  read = λ some. ap (λ (v : PassView). v.read) is ∙ a.read some;
  anew = λ none. ap (λ (v : PassView). v.read) is ∙ a.anew none;
  found = (λ found. ap (λ (v : PassView). v.found_dead) is ∙ a.found.0 found, λ found. ap (λ (v : PassView). v.found_zero) is ∙ a.found.1 found);
}
  where
    no_more : (n : ℕ) → n + 0 ≡ n
    no_more n = omega arith
leaves old mid new true (Tried.Refused r) a is same = cc
leaves old mid new false Tried.Given a is same = cc
leaves old mid new false (Tried.Refused r) a is same = record {
  held = ap (λ (v : PassView). v.standing) is ∙ ap (λ (p : PassStanding). record { held = p.held; pending = Nothing }) a.standing;
  releases = ap (λ (v : PassView). v.releases) is ∙ ap (λ (n : ℕ). n + released r) a.releases;
  seen_front = ap (λ (v : PassView). v.seen_front) is ∙ a.seen_front;
  front_loads = ap (λ (v : PassView). v.front_loads) is ∙ a.front_loads;
  floor = let same_as : new.floor ≡ mid.floor = ap (λ (v : PassView). v.floor) is in let most = a.floor in omega arith;
  same_floor = λ refused. ap (λ (v : PassView). v.floor) is ∙ a.same_floor refl;
  live_given = let same_as : new.live_given ≡ mid.live_given = ap (λ (v : PassView). v.live_given) is in let most = a.live_given in omega arith;
  read = λ some. ap (λ (v : PassView). v.read) is ∙ a.read some;
  anew = λ none. ap (λ (v : PassView). v.read) is ∙ a.anew none;
  found = (λ found. ap (λ (v : PassView). v.found_dead) is ∙ a.found.0 found, λ found. ap (λ (v : PassView). v.found_zero) is ∙ a.found.1 found);
}

pub try_leaves : {g : GateFacts} (old mid new : PassView) (b : Bool) (r : Tried) → TryCounts g old mid b → new ≡ after_try r mid → is_refused r ≡ not b → TryLeaves old new r
try_leaves old mid new b r t is same = leaves old mid new b r t.adds is same

pub live_try_leaves : {g : GateFacts} (slot : ℕ) (old mid new : PassView) (b : Bool) (r : Tried) → LiveCounts g slot old mid b → new ≡ after_try r mid → is_refused r ≡ not b → TryLeaves old new r
live_try_leaves slot old mid new b r t is same = leaves old mid new b r t.adds is same

-- the floor after a try for a live gate
floor_by_count : {g : GateFacts} (slot : ℕ) (old mid : PassView) (b : Bool) → LiveCounts g slot old mid b → mid.floor ≡ (if not b then old.floor else next_even old.floor)
floor_by_count slot old mid true t = t.floor refl
floor_by_count slot old mid false t = t.adds.same_floor refl

pub floor_after_try : {g : GateFacts} (slot : ℕ) (old mid new : PassView) (b : Bool) (r : Tried) → LiveCounts g slot old mid b → new ≡ after_try r mid → is_refused r ≡ not b
    → new.floor ≡ (if is_refused r then old.floor else next_even old.floor)
floor_after_try slot old mid new b r t is same = end_leaves_floor mid new r is ∙ floor_by_count slot old mid b t ∙ ap (λ (x : Bool). if x then old.floor else next_even old.floor) (sym same)

-- what a live gate gave: 1 more if the try is given
end_leaves_live : (mid new : PassView) (r : Tried) → new ≡ after_try r mid → new.live_given ≡ mid.live_given
end_leaves_live mid new Tried.Given is = ap (λ (v : PassView). v.live_given) is
end_leaves_live mid new (Tried.Refused r) is = ap (λ (v : PassView). v.live_given) is

count_is : (b : Bool) (r : Tried) → is_refused r ≡ not b → count b ≡ taken r
count_is true Tried.Given same = refl
count_is true (Tried.Refused r) same = cc
count_is false Tried.Given same = cc
count_is false (Tried.Refused r) same = refl

pub given_live : {g : GateFacts} (slot : ℕ) (old mid new : PassView) (b : Bool) (r : Tried) → LiveCounts g slot old mid b → new ≡ after_try r mid → is_refused r ≡ not b
    → new.live_given ≡ old.live_given + taken r
given_live slot old mid new b r t is same = end_leaves_live mid new r is ∙ t.live_given ∙ ap (λ (n : ℕ). old.live_given + n) (count_is b r same)

-- if an odd front was seen, a reference that is given has a greater floor
pub given_later : (seen floor new : ℕ) (refused : Bool) → seen ≤ floor → new ≡ (if refused then floor else next_even floor) → refused ≡ false → seen % 2 ≡ 1 → seen + 1 ≤ new
given_later seen floor new true most is given odd = cc
given_later seen floor new false most is given odd = omega arith

-- the count of a try by an addition
pub added_try : {g : GateFacts} (old new : PassView) (b : Bool) → PassStep g events.AddTry old new (tried b) → TryCounts g old new b
added_try old new b s = let zero = tried_is b s.moment.cells.shared.zero s.answered in record {
  moment = s.moment;
  zero = zero;
  dead = λ refused. (moment_knows old s.moment).zero_is_dead (zero ∙ ap not refused);
  adds = adds_try old new b s;
  meets = try_added old new b s zero;
  found = λ refused. (
    ap (λ (v : PassView). v.found_dead) s.learned ∙ or_found old.found_dead s.moment.cells.shared.dead ((moment_knows old s.moment).zero_is_dead (zero ∙ ap not refused)),
    ap (λ (v : PassView). v.found_zero) s.learned ∙ or_found old.found_zero s.moment.cells.shared.zero (zero ∙ ap not refused),
  );
}

live_by : (b dead : Bool) (n : ℕ) → dead ≡ not b → (if dead then n else n + 1) ≡ n + count b
live_by true true n found = cc
live_by true false n found = refl
live_by false true n found = omega arith
live_by false false n found = cc

pub added_live : {g : GateFacts} (slot : ℕ) (old new : PassView) (b : Bool) → PassStep g events.AddLive old new (tried b) → LiveCounts g slot old new b
added_live slot old new b s = let dead = tried_is b s.moment.cells.shared.dead s.answered in record {
  moment = s.moment;
  refused = λ refused. dead ∙ ap not refused;
  given = λ given. ap (λ (d : Bool). not d || slot_open_at slot s.moment) (dead ∙ ap not given);
  even = λ given. (moment_knows old s.moment).even (dead ∙ ap not given);
  adds = adds_live old new b s;
  meets = live_added old new b s dead;
  floor = λ given. live_floor old new b s ∙ ap (λ (x : Bool). if not x then old.floor else next_even old.floor) given;
  live_given = ap (λ (v : PassView). v.live_given) s.learned ∙ live_by b s.moment.cells.shared.dead old.live_given dead;
  found = λ refused. ap (λ (v : PassView). v.found_dead) s.learned ∙ or_found old.found_dead s.moment.cells.shared.dead (dead ∙ ap not refused);
}

-- the count of a try on a slot
adds_on_slot : {g : GateFacts} (slot : ℕ) (old new : PassView) → SlotTake g slot 1 old new true → TryAdds old new true
adds_on_slot slot old new t = let is = t.won refl in record {
  standing = ap (λ (v : PassView). v.standing) is;
  releases = ap (λ (v : PassView). v.releases) is;
  seen_front = ap (λ (v : PassView). v.seen_front) is;
  front_loads = ap (λ (v : PassView). v.front_loads) is;
  floor = let same : new.floor ≡ next_even old.floor = ap (λ (v : PassView). v.floor) is in omega arith;
  same_floor = λ refused. cc;
  live_given = let same : new.live_given ≡ old.live_given + 1 = ap (λ (v : PassView). v.live_given) is in omega arith;
  read = λ held. ap (λ (v : PassView). v.read) is ∙ reads_on old.standing.held old.read held;
  anew = λ none. ap (λ (v : PassView). v.read) is ∙ ap (λ (held : ℕ). if held == 0 then [] else old.read) none;
  found = (λ found. ap (λ (v : PassView). v.found_dead) is ∙ found, λ found. ap (λ (v : PassView). v.found_zero) is ∙ found);
}

pub slot_try : {g : GateFacts} (slot : ℕ) (old new : PassView) → SlotTake g slot 1 old new true → TryCounts g old new true
slot_try slot old new t = let seen = t.moment refl in record { moment = seen.moment; zero = seen.zero_clear; dead = λ refused. cc; adds = adds_on_slot slot old new t; meets = slot_meets has_zero slot old new t; found = λ refused. cc }

pub slot_live : {g : GateFacts} (slot : ℕ) (old new : PassView) → SlotTake g slot 1 old new true → LiveCounts g slot old new true
slot_live slot old new t = let seen = t.moment refl in let is = t.won refl in record {
  moment = seen.moment;
  refused = λ refused. cc;
  given = λ given. or_found (not (dead_at seen.moment)) (slot_open_at slot seen.moment) seen.open_there;
  even = λ given. seen.even;
  adds = adds_on_slot slot old new t;
  meets = slot_meets has_dead slot old new t;
  floor = λ given. ap (λ (v : PassView). v.floor) is;
  live_given = ap (λ (v : PassView). v.live_given) is;
  found = λ refused. cc;
}

-- the same after an exchange that wasn't won
abbrev Unwon : PassView → PassView → Type 0
Unwon old mid = (mid ≡ old) ⊎ ((old.standing.held ≡ 0) × (mid ≡ record old { read = [] }))

-- everything except what was read is unchanged
record Alike (old mid : PassView) : Type 0 where
  pub all : mid ≡ record old { read = mid.read }
  pub read : 0 < old.standing.held → mid.read ≡ old.read

alike : (old mid : PassView) → Unwon old mid → Alike old mid
alike old mid (inl is) = record { all = is ∙ ap (λ (rs : List WordRead). record old { read = rs }) (sym (ap (λ (v : PassView). v.read) is)); read = λ held. ap (λ (v : PassView). v.read) is }
alike old mid (inr none) = record { all = none.1 ∙ ap (λ (rs : List WordRead). record old { read = rs }) (sym (ap (λ (v : PassView). v.read) none.1)); read = λ held. let is = none.0 in absurd (omega arith) }

adds_after : (old mid new : PassView) (b : Bool) → Alike old mid → TryAdds mid new b → TryAdds old new b
adds_after old mid new b same a = let stands : mid.standing ≡ old.standing = ap (λ (v : PassView). v.standing) same.all in let holds : mid.standing.held ≡ old.standing.held = ap (λ (p : PassStanding). p.held) stands in record {
  standing = a.standing ∙ ap (λ (p : PassStanding). record { held = p.held + count b; pending = to_take_back b }) stands;
  releases = a.releases ∙ ap (λ (v : PassView). v.releases) same.all;
  seen_front = a.seen_front ∙ ap (λ (v : PassView). v.seen_front) same.all;
  front_loads = a.front_loads ∙ ap (λ (v : PassView). v.front_loads) same.all;
  floor = let is : mid.floor ≡ old.floor = ap (λ (v : PassView). v.floor) same.all in let most = a.floor in omega arith;
  same_floor = λ refused. a.same_floor refused ∙ ap (λ (v : PassView). v.floor) same.all;
  live_given = let is : mid.live_given ≡ old.live_given = ap (λ (v : PassView). v.live_given) same.all in let most = a.live_given in omega arith;
  read = λ held. a.read (omega arith) ∙ same.read held;
  anew = λ none. a.anew (holds ∙ none);
  found = (λ found. a.found.0 (ap (λ (v : PassView). v.found_dead) same.all ∙ found), λ found. a.found.1 (ap (λ (v : PassView). v.found_zero) same.all ∙ found));
}

pub try_after_loss : (g : GateFacts) (slot : ℕ) (old mid new : PassView) (b : Bool) → SlotTake g slot 1 old mid false → TryCounts g mid new b → TryCounts g old new b
try_after_loss g slot old mid new b lost t = let before = moment_before g old mid (lost.not_won refl) t.moment in record {
  moment = before.0;
  zero = ap (λ (cells : Cells). cells.shared.zero) before.1 ∙ t.zero;
  dead = λ refused. ap (λ (cells : Cells). cells.shared.dead) before.1 ∙ t.dead refused;
  adds = adds_after old mid new b (alike old mid (lost.not_won refl)) t.adds;
  meets = meets_after_loss g has_zero old mid new (not b) (lost.not_won refl) t.meets;
  found = t.found;
}

pub live_after_loss : (g : GateFacts) (slot : ℕ) (old mid new : PassView) (b : Bool) → SlotTake g slot 1 old mid false → LiveCounts g slot mid new b → LiveCounts g slot old new b
live_after_loss g slot old mid new b lost t = let before = moment_before g old mid (lost.not_won refl) t.moment in let same = alike old mid (lost.not_won refl) in record {
  moment = before.0;
  refused = λ refused. ap (λ (cells : Cells). cells.shared.dead) before.1 ∙ t.refused refused;
  given = λ given. ap (λ (cells : Cells). not cells.shared.dead || is_open (slot_at cells.slots slot)) before.1 ∙ t.given given;
  even = λ given. ap (λ (cells : Cells). cells.front % 2) before.1 ∙ t.even given;
  adds = adds_after old mid new b same t.adds;
  meets = meets_after_loss g has_dead old mid new (not b) (lost.not_won refl) t.meets;
  floor = λ given. t.floor given ∙ ap (λ (v : PassView). next_even v.floor) same.all;
  live_given = t.live_given ∙ ap (λ (v : PassView). v.live_given + count b) same.all;
  found = t.found;
}
