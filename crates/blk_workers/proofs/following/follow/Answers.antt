use Rattle.blk_workers.specs.Progress.{IsFollowing}
use Rattle.blk_workers.proofs.following.follow.Goals as goal

pub returns-clause-follows : goal.returns-clause-follows
returns-clause-follows c kills follows =
    let in_mode : IsFollowing c.args.queue.now kills c.mode-2.new.self =
    rw c.mode-2.ensures (record { own = follows.own; drained = follows.drained; kills = follows.kills })
    in
    c.step_to.ensures.follows kills (c.set_limits.ensures.follows kills in_mode)
