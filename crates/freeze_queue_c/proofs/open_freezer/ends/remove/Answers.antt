use Rattle.std.proofs.Common.{rules, length, ◌∙◌}
use Rattle.freeze_queue_c.specs.Opened.{freezer_with}
use Rattle.freeze_queue_c.proofs.Finals.{ended_anyway, ends_well, final_of}
use Rattle.freeze_queue_c.proofs.Waiting.{all_own, all_out}
use Rattle.freeze_queue_c.proofs.open_freezer.ends.remove.Goals as goal

pub remove-requires-clause-tags : goal.remove-requires-clause-tags
remove-requires-clause-tags c = all_own c.args.queue c.args.parts.waiting.items c.requires.wait

pub remove-requires-clause-out : goal.remove-requires-clause-out
remove-requires-clause-out c = all_out c.args.queue c.args.parts.waiting.items c.requires.wait

pub returns : goal.returns
returns c =
    let parts = c.args.parts in (
      ends_well parts.freezer (length parts.waiting.items) (search rules) c.in_default.ensures.refused,
      final_of (freezer_with parts.number c.args.queue parts.waiting.items parts.freezer) (c.of-limits.ensures ∙ c.limits.ensures.value)
          (ended_anyway c.in_default.ensures.frozen c.in_default.ensures.depth c.in-Ok.ensures.ended),
    )
