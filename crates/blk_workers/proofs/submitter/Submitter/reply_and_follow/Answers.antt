use Rattle.std.proofs.Common.{◌≡◌, ◌∙◌, refl, sym, ap, subst, ◌+◌, arith, length, None}
use Rattle.freeze_queue.specs.Queue.{QueueFacts}
use Rattle.script_meaning.specs.Queue.{Queue}
use Rattle.script_meaning.specs.Requests.{accepted_at}
use Rattle.script_meaning.specs.Script.{Meant}
use Rattle.in_flight.specs.Table.{Stands}
use Rattle.blk_workers.specs.Progress.{IsFollowing, StaysAwaited}
use Rattle.in_flight.proofs.Numbering.{counts_line}
use Rattle.in_flight.proofs.NextLines.{hardware_at}
use Rattle.blk_workers.proofs.submitter.Submitter.reply_and_follow.Goals as goal

pub follow-requires-clause-hardware : goal.follow-requires-clause-hardware
follow-requires-clause-hardware g c =
    ap (λ (q : Queue). q.limits.hardware) c.requires.next.queue.is ∙ hardware_at g.J.Run.script (length c.args.self.now.table.replies + 1) ∙ sym c.context.invariant.0.hardware
    ∙ sym (ap (λ (q : QueueFacts). q.hardware) c.context.invariant.0.its_queue)

pub returns : goal.returns
returns g c =
    let here = length c.args.self.now.table.replies in
    let refused : accepted_at g.J.Run.script here ≡ None = c.requires.next.refused in
    let replied = c.in_ok-reply_now.ensures.replied in
    let table = c.reply_now.new.table in
    let follows : IsFollowing g.J.Run.queue (here + 1) c.follow.new.freezer =
    subst (λ (q : QueueFacts). IsFollowing q (here + 1) c.follow.new.freezer) c.context.invariant.0.its_queue
    (c.follow.ensures.follows (here + 1)
    (subst (λ (q : QueueFacts). IsFollowing q (here + 1) c.args.self.now.freezer) (sym c.context.invariant.0.its_queue) c.requires.before.follows))
    in
    record {
      passed = record {
        at = record {
          stands = subst (λ (s : Meant). Stands s table.replies table.disk) (c.script.ensures ∙ c.context.invariant.0.its_script) replied.stands;
          lines = replied.lines;
          state = c.requires.next.queue;
          freezer = follows;
          in_step = c.follow.ensures.in_step;
          counted = record { is = c.requires.before.counted.is ∙ sym (counts_line g.J.Run.script here refused); few = omega (arith, c.requires.before.counted.few) };
        };
        accepted = refl;
        awaited =
            subst (λ (s : Meant). StaysAwaited s c.args.self.now.table.replies table.replies) (c.script.ensures ∙ c.context.invariant.0.its_script) replied.awaited;
      };
      follows = follows;
      kills = c.follow.ensures.kills;
      points = refl;
      memory = tt;
    }
