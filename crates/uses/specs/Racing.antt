-- What the two threads of a race hand to one another.
use Rattle.std.specs.Prelude.{◌≡◌, ℕ, None}
use Rattle.percpu_core.specs.declared.view.PassView.{PassView}
use Rattle.percpu_gate.specs.Calls.{holding, LiveTryFinds}
use Rattle.percpu_gate.specs.ControlCalls.{kill_refusal}
use Rattle.percpu_gate.specs.Seats.{GateFacts, PassFacts, ControlFacts}
use Rattle.uses.specs.Removal.{told, tried}
use Rattle.uses.specs.declared.removal.Served.{Served}

-- a pass of this gate that holds nothing, and whose puts were the last this often
abbrev pub IsIdle : GateFacts → PassFacts → ℕ → Type 0
IsIdle g p releases = (p.gate ≡ g) × (p.view.standing ≡ holding 0) × (p.view.releases ≡ releases)

-- what the thread that runs the request leaves: a pass that holds nothing, which has the request's result; and the request found the gate as its result says
abbrev pub IsServedBy : GateFacts → PassView → PassFacts → Served → Type 0
IsServedBy g before p served = IsIdle g p (told served) × LiveTryFinds g 0 before (tried served)

-- a control of this gate that has one pass out, whose puts were the last this often, and that has cleared no zero
abbrev pub HasOnePass : GateFacts → ControlFacts → ℕ → Type 0
HasOnePass g c releases = (c.gate ≡ g) × (c.view.passes ≡ 1) × (c.view.releases ≡ releases) × (c.view.zeros_cleared ≡ 0)

-- a kill by this control isn't refused
abbrev pub MayKill : ControlFacts → Type 0
MayKill c = kill_refusal c.view.standing.phase c.view.standing.kills ≡ None
