use Rattle.std.proofs.Common.{◌≡◌, ◌-◌, length}
use Rattle.percpu_gate_c.specs.ControlCalls.{with_passes}
use Rattle.percpu_gate_c.proofs.open_control.take_in_all.Given as goal

abbrev pub invariant-loop-pass : goal.invariant-loop-pass
invariant-loop-pass l = l.control ≡ with_passes (l.initial.control.view.passes - length l.yielded) l.initial.control
