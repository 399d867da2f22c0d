-- The rule of a gate's table: its words encode a memory for which, with the views of the seats, the laws hold.
use Rattle.std.specs.Prelude.{◌≡◌, ℕ, ◌+◌, ◌≤◌, ℤ, pos, ◌-ℤ◌, List, [], ◌∷◌, All, length, map, take, slice_index, nat_lt, if◌then◌else◌}
use Rattle.atomic_table.specs.Table.{State, Me}
use Rattle.percpu_core.specs.declared.sizes.Sizes.{Sizes}
use Rattle.percpu_core.specs.declared.limits.TheConstants.{WORD_LIMIT}
use Rattle.percpu_core.specs.declared.start.Start.{Start}
use Rattle.percpu_core.specs.declared.start.Start.TheVariants.{Atomic}
use Rattle.percpu_core.specs.declared.control_event.ControlEvent.{ControlEvent}
use Rattle.percpu_core.specs.declared.control_event.ControlEvent.TheVariants.{Close, OpenNext}
use Rattle.percpu_core.specs.declared.pass_event.PassEvent.{PassEvent}
use Rattle.percpu_core.specs.declared.pass_standing.PassStanding.{PassStanding}
use Rattle.percpu_core.specs.declared.reply.Reply.{Reply}
use Rattle.percpu_core.specs.declared.view.PassView.{PassView}
use Rattle.percpu_core.specs.declared.view.ControlView.{ControlView}
use Rattle.percpu_core.specs.declared.view.View.{View}
use Rattle.percpu_core.specs.declared.view.View.TheVariants.{OfControl, OfPass, Spent}
use Rattle.percpu_words.specs.SharedWord.{spelling}
use Rattle.percpu_words.specs.SlotWord.{middle}
use Rattle.percpu_core.specs.Cells.{Cells, slot_at, slot_spelling}
use Rattle.percpu_core.specs.ReleaseLaw.{Origin}
use Rattle.percpu_core.specs.Laws.{Lawful}
use Rattle.percpu_core.specs.ControlLearns.{control_view_after, joined}
use Rattle.percpu_core.specs.PassSteps.{pass_reply, standing_after}
use Rattle.percpu_core.specs.Starts.{Opening, opening, starts_dead, idle}
use Rattle.percpu_core.specs.Snapshots.{first_control, first_pass, view_after}
use Rattle.percpu_core.specs.SeatLaws.{Sees, with_one_more}
use Rattle.percpu_gate.specs.declared.rule.GateKey.{GateKey}
use Rattle.percpu_gate.specs.declared.rule.SeatView.{SeatView}
use Rattle.percpu_gate.specs.Layout.{words_in_all, Spell}

-- how the gate of this key opens; its passes come afterwards
abbrev pub opening_of : GateKey → Opening
opening_of k = opening k.slots 1 k.start 0 (take k.count k.words)

-- its sizes
abbrev pub sizes_at : GateKey → Sizes
sizes_at k = record { slots = k.slots; words = k.count }

-- a gate starts with no kills
abbrev pub origin : Start → Origin
origin start = record { dead = starts_dead start; kills = 0 }

-- the steps of a pass, each with its reply, the last one first
abbrev pub Steps : Type 0
Steps = List (PassEvent × Reply)

-- what a seat of the gate with this key knows, with this view, these steps and this many moves
abbrev pub seated : GateKey → View → Steps → ℕ → SeatView
seated k v steps moves = record { slots = k.slots; start = k.start; words = k.count; view = v; steps = steps; moves = moves }

abbrev pub view_of : SeatView → View
view_of w = w.view

-- the words of the gate of this key encode this memory, which has the key's numbers of slots and guarded words
pub record Spelled (k : GateKey) (ws : List ℕ) (c : Cells) : Type 0 where
  pub size : length ws ≡ words_in_all k.slots
  pub few : k.count ≤ WORD_LIMIT
  pub slots : length c.slots ≡ k.slots
  pub guarded : length c.words ≡ k.count
  pub words : Spell ws c

-- the state of a new pass after steps with these replies
abbrev pub standing_by : Steps → PassStanding
standing_by [] = idle
standing_by (step ∷ steps) = standing_after step.0 step.1 (standing_by steps)

-- a pass is in the state to which its steps lead, so it holds the references that they took less those that they dropped
abbrev pub StandsBy : Steps → View → Type 0
StandsBy steps (OfPass p) = p.standing ≡ standing_by steps
StandsBy steps (OfControl c) = Unit {0}
StandsBy steps Spent = Unit {0}

pub record Ruled (k : GateKey) (s : State (Unit {0}) SeatView) : Type 0 where
  pub cells : Cells
  pub spelled : Spelled k s.words cells
  pub lawful : Lawful (origin k.start) cells (map view_of s.views)
  pub steps : All (λ w. StandsBy w.steps w.view) s.views

-- a gate with this many slots and guarded words between two steps, seen by one seat: the memory and all views, of which the laws hold
pub record MomentOf (gate_slots : ℕ) (start : Start) (gate_words : ℕ) (view : View) : Type 0 where
  pub cells : Cells
  pub slots : length cells.slots ≡ gate_slots
  pub guarded : length cells.words ≡ gate_words
  pub views : List View
  pub seat : ℕ
  pub lawful : Lawful (origin start) cells views
  pub sees : Sees views seat view

-- what a pass knows after a step, which is added to its steps
abbrev pub pass_after : PassEvent → Cells → SeatView → SeatView
pass_after e cells w = record w { view = view_after e cells w.view; steps = (e, pass_reply e cells) ∷ w.steps }

-- the view after a step of the control
abbrev pub view_after_control : ControlEvent → Cells → View → View
view_after_control e cells (OfControl c) = OfControl (control_view_after e cells c)
view_after_control e cells (OfPass p) = OfPass p
view_after_control e cells Spent = Spent

-- the number of slots closed and opened, after this step
abbrev pub moves_after : ControlEvent → ℕ → ℕ
moves_after Close moves = moves + 1
moves_after OpenNext moves = moves + 1
moves_after _ moves = moves

-- what the control knows after a step, which is counted if it closes or opens a slot
abbrev pub control_after : ControlEvent → Cells → SeatView → SeatView
control_after e cells w = record w { view = view_after_control e cells w.view; moves = moves_after e w.moves }

-- what a step shows its seat: there was a moment of its gate at which the event was taken, and the number found is the word's
pub record Took (after : Cells → SeatView → SeatView) (word : Cells → ℕ) (me : Me (Unit {0}) SeatView) (found : ℕ) (new : Me (Unit {0}) SeatView) : Type 0 where
  pub moment : MomentOf me.0.slots me.0.start me.0.words me.0.view
  pub word_found : found ≡ word moment.cells
  pub learned : new ≡ (after moment.cells me.0, me.1)

-- the number of the shared word
abbrev pub shared_number : Cells → ℕ
shared_number cells = spelling cells.shared

-- the number of the front, and of a guarded word
abbrev pub front_number : Cells → ℕ
front_number cells = cells.front

abbrev pub guarded_number : ℕ → Cells → ℕ
guarded_number k cells = slice_index cells.words k

-- the number of a slot, and the delta that a number encodes
abbrev pub slot_number : ℕ → Cells → ℕ
slot_number i cells = slot_spelling (slot_at cells.slots i)

abbrev pub delta_told : ℕ → ℤ
delta_told w = pos w -ℤ pos middle

-- the number of the front that comes next
abbrev pub next_front_number : Cells → ℕ
next_front_number cells = cells.front + 1

-- a table starts with the control alone, which then splits off the passes
abbrev pub first_view : GateKey → SeatView
first_view k = seated k (OfControl (record (first_control (opening_of k)) { passes = 0 })) [] 0

-- the control's view after it has split off one more pass, and that pass's view
abbrev pub one_more : View → View
one_more (OfControl c) = OfControl (with_one_more c)
one_more (OfPass p) = OfPass p
one_more Spent = Spent

abbrev pub with_a_pass : SeatView → SeatView
with_a_pass w = record w { view = one_more w.view }

abbrev pub fresh_seat : SeatView → SeatView
fresh_seat w = record w { view = OfPass first_pass; steps = []; moves = 0 }

-- the control takes in a pass, if it has one out; by the laws it has
abbrev pub after_retire : PassView → ControlView → ControlView
after_retire p c = if nat_lt 0 c.passes then joined c p else c

abbrev pub taken_in : View → View → View
taken_in (OfControl c) (OfPass p) = OfControl (after_retire p c)
taken_in (OfControl c) (OfControl d) = OfControl c
taken_in (OfControl c) Spent = OfControl c
taken_in (OfPass p) w = OfPass p
taken_in Spent w = Spent

abbrev pub with_taken_in : SeatView → SeatView → SeatView
with_taken_in v w = record v { view = taken_in v.view w.view }

-- the view of a seat that was taken in
abbrev pub spent_seat : SeatView
spent_seat = record { slots = 0; start = Atomic; words = 0; view = Spent; steps = []; moves = 0 }
