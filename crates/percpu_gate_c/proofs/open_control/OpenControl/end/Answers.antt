use Rattle.std.proofs.Common.{rules, ap, sym, ◌∙◌, ◌+◌, ◌-◌, length, option_to_list}
use Rattle.percpu_gate_c.specs.Opened.{ControlOpened}
use Rattle.percpu_gate_c.specs.Life.{end_refusal}
use Rattle.percpu_gate_c.proofs.Finals.{final_of}
use Rattle.percpu_gate_c.proofs.open_control.OpenControl.end.Goals as goal

pub returns : goal.returns
returns c =
    let out = c.self.inside.control.view.passes - (length c.self.inside.waiting.items + length (option_to_list c.self.inside.spare)) in
    final_of {gate = c.in-Ok.gate} {over = c.take_in_all.new.control} out (sym c.self.view_is) (search rules) c.take_in_all.ensures
    (ap (λ (o : ControlOpened). end_refusal o) c.self.view_is ∙ c.requires.retired) (search rules) (search rules) (search rules) (search rules) (search rules)
