-- What a pass knows after each of its steps.
use Rattle.std.specs.Prelude.{ℕ, ◌+◌, ◌%◌, ◌==◌, Bool, true, false, ◌||◌, ◌&&◌, if◌then◌else◌, List, [], ◌∷◌, slice_index}
use Rattle.percpu_core.specs.declared.pass_event.PassEvent.{PassEvent}
use Rattle.percpu_core.specs.declared.pass_event.PassEvent.TheVariants.{AddTry, AddLive, Take, LookShared, LoadFront, LoadWord}
use Rattle.percpu_core.specs.declared.view.WordRead.{WordRead}
use Rattle.percpu_core.specs.declared.view.PassView.{PassView}
use Rattle.percpu_core.specs.Cells.{Cells, slot_at, is_open_with}
use Rattle.percpu_core.specs.Views.{count}
use Rattle.percpu_core.specs.PassSteps.{pass_reply, standing_after}
use Rattle.percpu_core.specs.Machine.{won}

-- a pass looks for marks if it asks for them or tries, not if it only counts
abbrev pub looks_for_marks : PassEvent → Bool
looks_for_marks AddTry = true
looks_for_marks AddLive = true
looks_for_marks LookShared = true
looks_for_marks _ = false

-- a pass that takes its first reference begins to read anew
abbrev pub begun : PassView → List WordRead
begun p = if p.standing.held == 0 then [] else p.read

abbrev pub read_after : PassEvent → Cells → PassView → List WordRead
read_after AddTry cells p = begun p
read_after AddLive cells p = begun p
read_after (Take s d n) cells p = begun p
read_after (LoadWord k) cells p = record { word = k; value = slice_index cells.words k } ∷ p.read
read_after _ cells p = p.read

abbrev pub seen_front_after : PassEvent → Cells → PassView → ℕ
seen_front_after LoadFront cells p = cells.front
seen_front_after _ cells p = p.seen_front

-- a load of the front
abbrev pub front_loads_after : PassEvent → PassView → ℕ
front_loads_after LoadFront p = p.front_loads + 1
front_loads_after _ p = p.front_loads

-- the least even number that is no less
abbrev pub next_even : ℕ → ℕ
next_even n = n + n % 2

-- while DEAD is clear or a slot is open the front is even, so a try that finds it so is made at an even front
abbrev pub floor_after : PassEvent → Cells → PassView → ℕ
floor_after LoadFront cells p = cells.front
floor_after AddLive cells p = if cells.shared.dead then p.floor else next_even p.floor
floor_after (Take s d n) cells p = if is_open_with d (slot_at cells.slots s) then next_even p.floor else p.floor
floor_after _ cells p = p.floor

-- a step that took references as a live gate gives them: an addition that found DEAD clear, or an exchange of a slot that was won
abbrev pub live_given_after : PassEvent → Cells → PassView → ℕ
live_given_after AddLive cells p = if cells.shared.dead then p.live_given else p.live_given + 1
live_given_after (Take s d n) cells p = if is_open_with d (slot_at cells.slots s) then p.live_given + 1 else p.live_given
live_given_after _ cells p = p.live_given

-- a load of the shared word
abbrev pub looks_after : PassEvent → PassView → ℕ
looks_after LookShared p = p.looks + 1
looks_after _ p = p.looks

-- a step that looks for marks, and may have found this one: a load of the shared word, or the addition of a try
abbrev pub times_after : PassEvent → Bool → ℕ → ℕ
times_after AddTry found n = n + count found
times_after AddLive found n = n + count found
times_after LookShared found n = n + count found
times_after _ found n = n

abbrev pub pass_view_after : PassEvent → Cells → PassView → PassView
pass_view_after e cells p = record {
  standing = standing_after e (pass_reply e cells) p.standing;
  read = read_after e cells p;
  seen_front = seen_front_after e cells p;
  floor = floor_after e cells p;
  front_loads = front_loads_after e p;
  live_given = live_given_after e cells p;
  looks = looks_after e p;
  found_dead_times = times_after e cells.shared.dead p.found_dead_times;
  found_zero_times = times_after e cells.shared.zero p.found_zero_times;
  releases = p.releases + won (pass_reply e cells);
  found_dead = p.found_dead || (looks_for_marks e && cells.shared.dead);
  found_zero = p.found_zero || (looks_for_marks e && cells.shared.zero);
}
