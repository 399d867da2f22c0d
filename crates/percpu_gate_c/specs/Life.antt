-- The beginning and the end of gates and their handles.
use Rattle.std.specs.Prelude.{◌≡◌, ℕ, ◌+◌, ◌-◌, ◌⊎◌, nat_eq, nat_lt, if◌then◌else◌, Option, Some, None, Result, Ok, Err, List}
use Rattle.percpu_core.specs.Phases.{is_phase}
use Rattle.percpu_core.specs.declared.phase.Phase.TheVariants.{Dead}
use Rattle.percpu_core.specs.declared.start.Start.{Start}
use Rattle.percpu_core.specs.declared.start.Start.TheVariants as starts
use Rattle.percpu_gate.specs.declared.exit.ExitWhy.{ExitWhy}
use Rattle.percpu_gate.specs.ControlCalls.{exit_refusal, exit_number}
use Rattle.percpu_gate.specs.Exits.{Ended}
use Rattle.c_answers.specs.declared.drawn_number.DrawnNumber.{DrawnNumber}
use Rattle.c_answers.specs.declared.misuse.Misuse.{Misuse}
use Rattle.c_answers.specs.declared.misuse.Misuse.TheVariants.{Closed, Open, Size}
use Rattle.percpu_gate_c.specs.declared.life.Final.{Final}
use Rattle.percpu_gate_c.specs.Opened.{PassOpened, ControlOpened}
use Rattle.percpu_gate_c.specs.ControlCalls.{Made, NewControl, Next, Retires, size_misuse}

-- the number of a handle's gate, drawn when the gate was made; 0 if the handle is closed
abbrev pub pass_number : Option PassOpened → ℕ
pass_number None = 0
pass_number (Some p) = p.number.drawn

abbrev pub control_number : Option ControlOpened → ℕ
control_number None = 0
control_number (Some c) = c.number.drawn

-- how a gate starts, by its number
abbrev pub start_named : ℕ → Start
start_named n = if nat_eq n 0 then starts.Slots else (if nat_eq n 1 then starts.Atomic else starts.Dead)

-- the misuse of a new gate's start and sizes; there are three starts
abbrev pub new_misuse : ℕ → ℕ → ℕ → Option Misuse
new_misuse start slots passes = if nat_lt 2 start then Some Size else size_misuse slots passes

-- the effect on a handle of making a gate with these numbers
abbrev pub HasMade : DrawnNumber → ℕ → ℕ → ℕ → List ℕ → Option ControlOpened → Option ControlOpened → Result (Unit {0}) Misuse → Type 0
HasMade number slots passes start words old new answer = Made (new_misuse start slots passes) (NewControl number slots passes (start_named start) words) old new answer

-- the effect of giving the next pass to a handle, which has to be closed
abbrev pub Gives : ControlOpened → ControlOpened → Option PassOpened → Option PassOpened → Result (Unit {0}) Misuse → Type 0
Gives old new (Some p) after answer = (answer ≡ Err Open) × (new ≡ old) × (after ≡ Some p)
Gives old new None after (Ok r) = (p : PassOpened) × (after ≡ Some p) × Next old new (Ok p)
Gives old new None after (Err why) = (after ≡ None) × Next old new (Err why)

-- the same for a control handle, which may be closed
abbrev pub Given : Option ControlOpened → Option ControlOpened → Option PassOpened → Option PassOpened → Result (Unit {0}) Misuse → Type 0
Given None new before after answer = (answer ≡ Err Closed) × (new ≡ None) × (after ≡ before)
Given (Some old) None before after answer = ⊥
Given (Some old) (Some new) before after answer = Gives old new before after answer

-- gates of one number are one gate
abbrev pub NumbersTell : ControlOpened → Option PassOpened → Type 0
NumbersTell c None = Unit {0}
NumbersTell c (Some p) = c.number.counter ≡ p.number.counter → c.number.drawn ≡ p.number.drawn → p.pass.gate ≡ c.control.gate

abbrev pub NumbersTellOn : Option ControlOpened → Option PassOpened → Type 0
NumbersTellOn None p = Unit {0}
NumbersTellOn (Some c) p = NumbersTell c p

-- the effect of retiring on the two handles
abbrev pub Retired : Option ControlOpened → Option ControlOpened → Option PassOpened → Option PassOpened → Result (Unit {0}) Misuse → Type 0
Retired None new before after answer = (answer ≡ Err Closed) × (new ≡ None) × (after ≡ before)
Retired (Some old) None before after answer = ⊥
Retired (Some old) (Some new) before after answer = Retires old new before after answer

-- the last facts of a gate that has ended, with no release lost
pub record IsFinal (c : ControlOpened) (f : Final) : Type 0 where
  pub dead : f.dead ≡ is_phase Dead c.control.view.standing.phase
  pub kills : f.kills ≡ c.control.view.standing.kills
  pub releases : f.releases ≡ c.control.view.releases
  pub words : f.words ≡ c.control.view.words
  -- the passes that nobody asked for were taken in
  pub nothing_lost : Ended c.control.gate (record c.control.view { passes = 0 })

-- why a gate may not end: a kill is under way, or passes that were given out aren't retired
abbrev pub end_refusal : ControlOpened → Option ExitWhy
end_refusal c = exit_refusal c.control.view.standing.phase (c.control.view.passes - c.waiting)

-- the effect of ending a gate: it is refused with everything unchanged, or it has ended. (If somebody else has a share of the gate, which no use of handles leads to, the number is 37 with everything unchanged, or 36 if the control gets no new box: then the control is gone)
abbrev pub ExitsOpen : Option ExitWhy → ControlOpened → Option ControlOpened → Final → Final → ℕ → Type 0
ExitsOpen (Some why) c new there here result = (result ≡ 16 + exit_number why) × (new ≡ Some c) × (here ≡ there)
ExitsOpen None c new there here result = ((new ≡ None) × (result ≡ 0) × IsFinal c here) ⊎ ((here ≡ there) × (((new ≡ Some c) × (result ≡ 37)) ⊎ ((new ≡ None) × (result ≡ 36))))

abbrev pub Exits : Option ControlOpened → Option ControlOpened → Final → Final → ℕ → Type 0
Exits None new there here result = (result ≡ 32) × (new ≡ None) × (here ≡ there)
Exits (Some c) new there here result = ExitsOpen (end_refusal c) c new there here result
