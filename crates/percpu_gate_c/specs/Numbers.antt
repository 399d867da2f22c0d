-- The numbers that only the library of the gate returns to C.
use Rattle.std.specs.Prelude.{ℕ, ◌+◌, Result, Ok, Err}
use Rattle.percpu_gate.specs.declared.control_fault.ControlFault.{ControlFault}
use Rattle.percpu_gate.specs.declared.revived.Revived.{Revived}
use Rattle.percpu_gate.specs.declared.revived.Revived.TheVariants.{AtZero, Held}
use Rattle.percpu_gate.specs.ControlCalls.{fault_number}
use Rattle.percpu_gate.specs.declared.tried.Tried.{Tried}
use Rattle.percpu_gate.specs.declared.tried.Tried.TheVariants.{Given, Refused}
use Rattle.c_answers.specs.Numbers.{put_number}

-- 0 for a try that took a reference; for a refused try, 2 more than the result of its put
abbrev pub tried_number : Tried → ℕ
tried_number Given = 0
tried_number (Refused put) = 2 + put_number put

-- a refusal of the gate is 16 more than its number
abbrev pub gate_number : {A : Type 0} → (A → ℕ) → Result A ControlFault → ℕ
gate_number number (Ok a) = number a
gate_number number (Err why) = 16 + fault_number why

-- 4 if the count had reached zero, which is no release: that was returned before
abbrev pub revived_number : Revived → ℕ
revived_number AtZero = 4
revived_number Held = 0
