use Rattle.std.proofs.Common.{◌∙◌}
use Rattle.trials_rows.proofs.tests.queue_caller.reads_what_was_set.Goals as goal

pub returns-clause-new : goal.returns-clause-new
returns-clause-new g c =
    let found = c.limits.ensures.in_force in
    let own = c.change_limits.ensures.own in (
      c.enter.new.tag.seat,
      found,
      λ stood.
          c.in_force_are_set.ensures c.change_limits.new.freezer c.args.queue.now c.enter.new.tag.seat c.limits.result c.depth.ensures.kept own found stood
          ∙ c.in_ok-change_limits.ensures.limits,
    )
