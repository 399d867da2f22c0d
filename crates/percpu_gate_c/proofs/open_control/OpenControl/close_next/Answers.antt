use Rattle.std.proofs.Common.{rules, sym, w64, SFits}
use Rattle.std.proofs.Math.Facts.{to_z-of_z}
use Rattle.percpu_gate_c.proofs.Steps.{closed_slot}
use Rattle.percpu_gate_c.proofs.open_control.OpenControl.close_next.Goals as goal

pub returns-in-Closing : goal.returns-in-Closing
returns-in-Closing c = let fits : SFits w64 c.close_next.result = search rules in
    (search rules, closed_slot (sym c.self.view_is) (search rules) (to_z-of_z fits) c.close_next.ensures.view c.close_next.ensures.found c.close_next.ensures.small)
