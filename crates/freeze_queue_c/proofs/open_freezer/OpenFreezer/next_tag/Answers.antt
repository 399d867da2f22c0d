use Rattle.std.proofs.Common.{rules}
use Rattle.std.specs.Arc.{arc_value}
use Rattle.std.proofs.lemmas.List.Elements.{All-pop}
use Rattle.freeze_queue_c.specs.Opened.{Waits}
use Rattle.freeze_queue_c.proofs.open_freezer.OpenFreezer.next_tag.Goals as goal

pub invariant_of-self-in-Err : goal.invariant_of-self-in-Err
invariant_of-self-in-Err c = let i = c.self.invariant in
    (i.0, i.1, search rules, (All-pop (Waits (arc_value c.self.inside.queue)) _ _ _ c.pop.ensures.items i.3).0, search rules)
