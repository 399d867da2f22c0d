-- The seats of a gate as a caller sees them.
use Rattle.std.specs.Prelude.{◌≡◌, ℕ, ℤ, Bool, true, false, Option, Some, None, List, []}
use Rattle.atomic_table.specs.Seated.{TableId}
use Rattle.atomic_table.specs.Table.{Me}
use Rattle.percpu_core.specs.declared.pass_event.PassEvent.{PassEvent}
use Rattle.percpu_core.specs.declared.control_event.ControlEvent.{ControlEvent}
use Rattle.percpu_core.specs.declared.start.Start.{Start}
use Rattle.percpu_core.specs.declared.start.Start.TheVariants.{Atomic}
use Rattle.percpu_core.specs.declared.slot.Slot.TheVariants.{Open}
use Rattle.percpu_core.specs.declared.reply.Reply.{Reply}
use Rattle.percpu_core.specs.declared.reply.Reply.TheVariants.{Given, Refused, NotLast, ToMark, Last, Lost, Won, Opened, Closed}
use Rattle.percpu_gate.specs.declared.tried.Put.TheVariants as Put
use Rattle.percpu_gate.specs.declared.tried.Put.{Put as PutAnswer}
use Rattle.percpu_core.specs.declared.view.PassView.{PassView}
use Rattle.percpu_core.specs.declared.view.ControlView.{ControlView}
use Rattle.percpu_core.specs.declared.view.View.{View}
use Rattle.percpu_core.specs.declared.view.View.TheVariants.{OfControl, OfPass, Spent}
use Rattle.percpu_core.specs.PassSteps.{pass_reply}
use Rattle.percpu_core.specs.PassLearns.{pass_view_after}
use Rattle.percpu_core.specs.ControlSteps.{control_reply}
use Rattle.percpu_core.specs.ControlLearns.{control_view_after}
use Rattle.percpu_core.specs.Starts.{opening}
use Rattle.percpu_core.specs.Snapshots.{first_pass, first_control}
use Rattle.percpu_core.specs.Cells.{slot_at, is_open}
use Rattle.percpu_words.specs.SharedWord.{spelling}
use Rattle.percpu_gate.specs.declared.rule.GateKey.{GateKey}
use Rattle.percpu_gate.specs.declared.rule.SeatView.{SeatView}
use Rattle.percpu_words.specs.declared.mode.Mode.{Mode}
use Rattle.percpu_gate.specs.Rule.{MomentOf, Steps}
use Rattle.percpu_core.specs.Starts.{first_mode}

-- the table of a gate, and what is known of it
pub record TableFacts : Type 0 where
  pub id : TableId
  pub key : GateKey

-- which gate it is, and how it was made: its slots, how it started, and its number of guarded words
pub record GateFacts : Type 0 where
  pub id : TableId
  pub slots : ℕ
  pub start : Start
  pub words : ℕ

abbrev pub facts_of : TableFacts → GateFacts
facts_of t = record { id = t.id; slots = t.key.slots; start = t.key.start; words = t.key.count }

-- which gate a pass belongs to, what it knows, and the steps that it took there
pub record PassFacts : Type 0 where
  pub gate : GateFacts
  pub view : PassView
  pub steps : Steps

-- which gate the control's seat belongs to, what it knows, and how many slots it has closed and opened there
pub record ControlSeatFacts : Type 0 where
  pub gate : GateFacts
  pub view : ControlView
  pub moves : ℕ

-- the same for the control, and the mode that it wants
pub record ControlFacts : Type 0 where
  pub gate : GateFacts
  pub view : ControlView
  pub moves : ℕ
  pub wants : Mode

-- the gate that a seat knows
abbrev pub gate_of : TableId → SeatView → GateFacts
gate_of id w = record { id = id; slots = w.slots; start = w.start; words = w.words }

-- what a pass and the control of a new gate know
abbrev pub fresh_pass : GateFacts → PassFacts
fresh_pass g = record { gate = g; view = first_pass; steps = [] }

abbrev pub fresh_control : GateFacts → ℕ → List ℕ → ControlFacts
fresh_control g passes words = record { gate = g; view = first_control (opening g.slots passes g.start 0 words); moves = 0; wants = first_mode g.start }

-- A gate that was made as this one (its slots, start and number of guarded words), between two steps, seen by a seat with this view. It carries no identity:
-- what the seat knows afterwards, such as its counts and reads, ties it to this gate and this call
abbrev pub Moment : GateFacts → View → Type 0
Moment g v = MomentOf g.slots g.start g.words v

-- whether DEAD, or ZERO, was set at a moment, and the front
abbrev pub dead_at : {slots words : ℕ} {start : Start} {v : View} → MomentOf slots start words v → Bool
dead_at m = m.cells.shared.dead

abbrev pub zero_at : {slots words : ℕ} {start : Start} {v : View} → MomentOf slots start words v → Bool
zero_at m = m.cells.shared.zero

abbrev pub front_at : {slots words : ℕ} {start : Start} {v : View} → MomentOf slots start words v → ℕ
front_at m = m.cells.front

-- whether the slot was open
abbrev pub slot_open_at : {slots words : ℕ} {start : Start} {v : View} → ℕ → MomentOf slots start words v → Bool
slot_open_at i m = is_open (slot_at m.cells.slots i)

abbrev pub pass_of : View → PassView
pass_of (OfPass p) = p
pass_of (OfControl c) = first_pass
pass_of Spent = first_pass

-- a seat of a pass holds no value of the table
abbrev pub SitsAsPass : Me (Unit {0}) SeatView → Type 0
SitsAsPass me = me ≡ (record me.0 { view = OfPass (pass_of me.0.view) }, [])

abbrev pub control_of : View → ControlView
control_of (OfControl c) = c
control_of (OfPass p) = first_control (opening 1 1 Atomic 0 [])
control_of Spent = first_control (opening 1 1 Atomic 0 [])

abbrev pub SitsAsControl : Me (Unit {0}) SeatView → Type 0
SitsAsControl me = me ≡ (record me.0 { view = OfControl (control_of me.0.view) }, [])

-- an event of the machine, taken by a pass at some moment of its gate, at which all laws held
pub record PassStep (g : GateFacts) (e : PassEvent) (old new : PassView) (reply : Reply) : Type 0 where
  pub moment : Moment g (OfPass old)
  pub learned : new ≡ pass_view_after e moment.cells old
  pub answered : reply ≡ pass_reply e moment.cells

-- the same for the control
pub record ControlStep (g : GateFacts) (e : ControlEvent) (old new : ControlView) (reply : Reply) : Type 0 where
  pub moment : Moment g (OfControl old)
  pub learned : new ≡ control_view_after e moment.cells old
  pub answered : reply ≡ control_reply e old.standing moment.cells

-- the same if the control gets the shared word that it found
pub record ControlFinds (g : GateFacts) (e : ControlEvent) (old new : ControlView) (found : ℕ) : Type 0 where
  pub moment : Moment g (OfControl old)
  pub learned : new ≡ control_view_after e moment.cells old
  pub word_found : found ≡ spelling moment.cells.shared

-- the control found the slot open with this delta, at a moment of its gate
pub record FindsDelta (g : GateFacts) (slot : ℕ) (old : ControlView) (d : ℤ) : Type 0 where
  pub moment : Moment g (OfControl old)
  pub found : slot_at moment.cells.slots slot ≡ Open d

-- the control found ZERO set, or not, at a moment. What it knows of ZERO afterwards ties this moment to its own gate
pub record FindsZero (g : GateFacts) (old : ControlView) (zero : Bool) : Type 0 where
  pub moment : Moment g (OfControl old)
  pub found : zero_at moment ≡ zero

-- the reply to a try, by whether it was given
abbrev pub tried : Bool → Reply
tried true = Given
tried false = Refused

-- the reply to a look at a slot, by the delta that it finds
abbrev pub looked : Option ℤ → Reply
looked None = Closed
looked (Some d) = Opened d

-- the reply to an exchange
abbrev pub exchanged : Bool → Reply
exchanged true = Won
exchanged false = Lost

-- the reply to a subtraction, by whether it left a zero to mark
abbrev pub left : Bool → Reply
left true = ToMark
left false = NotLast

-- the reply to the exchange that marks zero
abbrev pub marked : PutAnswer → Reply
marked Put.Last = Last
marked Put.NotLast = Lost

abbrev pub put_of : Bool → PutAnswer
put_of true = Put.Last
put_of false = Put.NotLast
