use Rattle.std.proofs.Common.{rules, sym}
use Rattle.freeze_queue_c.proofs.Waiting.{tried_to_enter}
use Rattle.freeze_queue_c.proofs.open_tag.OpenTag.try_enter.Goals as goal

pub returns : goal.returns
returns c =
    let e = c.try_enter.ensures in
    (search rules, tried_to_enter (sym c.self.view_is) c.deref.ensures e.own e.entered e.by_lane e.held e.by_gate e.in_hand e.steps)
