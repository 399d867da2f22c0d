use Rattle.std.proofs.Common.{◌≡◌, ◌∙◌, sym, ap, subst, refl, ◌+◌, length, None, inl, inr, arith}
use Rattle.script_meaning.specs.Requests.{accepted_before}
use Rattle.script_meaning.specs.Script.{Meant}
use Rattle.script_meaning.specs.declared.reply.Outcome.TheVariants.{Drained, Replied}
use Rattle.script_meaning.specs.Requests.{accepted_at}
use Rattle.blk_script.specs.Texts.{reply_line}
use Rattle.in_flight.specs.Requests.{IsQueueAt, IsReplyLine}
use Rattle.in_flight.proofs.NextLines.{came_to, next_queue, accepted_there, drains_there, reply_drained, reply_replied}
use Rattle.run_queues.specs.Parts.{CollectorFacts}
use Rattle.in_flight.proofs.Tables.{on_ok}
use Rattle.in_flight.proofs.Numbering.{counts_line}
use Rattle.script_meaning.specs.Queue.{Queue}
use Rattle.blk_workers.proofs.InStep.{near_drained, near_replied}
use Rattle.blk_workers.specs.Following.{IsFrozenFor}
use Rattle.blk_workers.specs.Progress.{IsAt, IsCounted, IsFollowing}
use Rattle.blk_workers.proofs.PassedPoints.{always_err, always_ok, drained_passes, replied_passes}
use Rattle.blk_workers.proofs.submitter.Submitter.reply_to.Goals as goal

pub reply_and_follow-requires-clause-before : goal.reply_and_follow-requires-clause-before
reply_and_follow-requires-clause-before g c =
    let drained = c.drain.ensures.drained in
    let collected = drained.collected in
    let counted = c.requires.taken.at.counted in
    record {
      stands = collected.collecting.stands;
      follows = subst (λ n. IsFollowing g.J.Run.queue (n + 1) c.drain.new.self.freezer) (sym collected.lines) collected.follows;
      near = near_drained c.args.self.now.state c.take.new.self c.index-lines-len.result.what c.in-Drained.reply c.drain.new.self.freezer c.in-Drained.ensures.outcome c.take.ensures.after
          (subst (λ (q : Queue). IsFrozenFor q c.drain.new.self.freezer) collected.state drained.frozen);
      counted = subst (λ n. IsCounted g.J.Run.script n c.drain.new.self.accepted) (sym collected.lines)
          (subst (λ n. IsCounted g.J.Run.script (length c.args.self.now.table.replies) n) (sym collected.accepted) counted);
    }

pub reply_and_follow-requires-in-Replied-clause-before : goal.reply_and_follow-requires-in-Replied-clause-before
reply_and_follow-requires-in-Replied-clause-before g c =
    let at = c.requires.taken.at in
    record {
      stands = at.stands;
      follows = record { own = at.freezer.own; drained = at.freezer.drained; kills = omega (arith, at.freezer.kills) };
      near = near_replied c.args.self.now.state c.take.new.self c.index-lines-len.result.what c.in-Replied.reply c.args.self.now.freezer c.in-Replied.ensures.outcome c.take.ensures.after at.in_step;
      counted = at.counted;
    }

pub reply_and_follow-requires-clause-next : goal.reply_and_follow-requires-clause-next
reply_and_follow-requires-clause-next g c =
    let came = came_to g.J.Run.script g.J.Run.script (length c.args.self.now.table.replies) c.len.result c.lines.result.now c.index-lines-len.result c.args.self.now.state c.take.new.self (Drained c.in-Drained.reply) refl
    (c.lines.ensures ∙ ap (λ (s : Meant). s.lines) (c.script.ensures ∙ c.context.invariant.0.its_script)) c.len.ensures c.requires.more c.index-lines-len.is c.requires.taken.at.state c.in-Drained.ensures.outcome c.take.ensures.after c.take.ensures.counts in
    let same = sym c.drain.ensures.drained.collected.lines in
    record {
      refused = subst (λ p. accepted_at g.J.Run.script p ≡ None) same (accepted_there g.J.Run.script (length c.args.self.now.table.replies) c.index-lines-len.result c.args.self.now.state c.take.new.self (Drained c.in-Drained.reply) came);
      reply = subst (λ p. IsReplyLine g.J.Run.script p (reply_line (c.index-lines-len.result.number, c.in-Drained.reply))) same (reply_drained g.J.Run.script (length c.args.self.now.table.replies) c.index-lines-len.result c.args.self.now.state c.take.new.self c.in-Drained.reply came);
      queue = subst (λ p. IsQueueAt g.J.Run.script (p + 1) c.take.new.self) same (next_queue g.J.Run.script (length c.args.self.now.table.replies) c.index-lines-len.result c.args.self.now.state c.take.new.self (Drained c.in-Drained.reply) came);
    }

pub reply_and_follow-requires-in-Replied-clause-passes : goal.reply_and_follow-requires-in-Replied-clause-passes
reply_and_follow-requires-in-Replied-clause-passes g c =
    let came = came_to g.J.Run.script g.J.Run.script (length c.args.self.now.table.replies) c.len.result c.lines.result.now c.index-lines-len.result c.args.self.now.state c.take.new.self (Replied c.in-Replied.reply) refl
    (c.lines.ensures ∙ ap (λ (s : Meant). s.lines) (c.script.ensures ∙ c.context.invariant.0.its_script)) c.len.ensures c.requires.more c.index-lines-len.is c.requires.taken.at.state c.in-Replied.ensures.outcome c.take.ensures.after c.take.ensures.counts in
    inl (drains_there g.J.Run.script (length c.args.self.now.table.replies) c.index-lines-len.result c.args.self.now.state c.take.new.self (Replied c.in-Replied.reply) came)

pub reply_and_follow-requires-in-Replied-clause-next : goal.reply_and_follow-requires-in-Replied-clause-next
reply_and_follow-requires-in-Replied-clause-next g c =
    let came = came_to g.J.Run.script g.J.Run.script (length c.args.self.now.table.replies) c.len.result c.lines.result.now c.index-lines-len.result c.args.self.now.state c.take.new.self (Replied c.in-Replied.reply) refl
    (c.lines.ensures ∙ ap (λ (s : Meant). s.lines) (c.script.ensures ∙ c.context.invariant.0.its_script)) c.len.ensures c.requires.more c.index-lines-len.is c.requires.taken.at.state c.in-Replied.ensures.outcome c.take.ensures.after c.take.ensures.counts in
    record {
      refused = accepted_there g.J.Run.script (length c.args.self.now.table.replies) c.index-lines-len.result c.args.self.now.state c.take.new.self (Replied c.in-Replied.reply) came;
      reply = reply_replied g.J.Run.script (length c.args.self.now.table.replies) c.index-lines-len.result c.args.self.now.state c.take.new.self c.in-Replied.reply came;
      queue = next_queue g.J.Run.script (length c.args.self.now.table.replies) c.index-lines-len.result c.args.self.now.state c.take.new.self (Replied c.in-Replied.reply) came;
    }

pub returns-in_ok-drain-in-Drained-clause-taken : goal.returns-in_ok-drain-in-Drained-clause-taken
returns-in_ok-drain-in-Drained-clause-taken g c =
    let came = came_to g.J.Run.script g.J.Run.script (length c.args.self.now.table.replies) c.len.result c.lines.result.now c.index-lines-len.result c.args.self.now.state c.take.new.self (Drained c.in-Drained.reply) refl
    (c.lines.ensures ∙ ap (λ (s : Meant). s.lines) (c.script.ensures ∙ c.context.invariant.0.its_script)) c.len.ensures c.requires.more c.index-lines-len.is c.requires.taken.at.state c.in-Drained.ensures.outcome c.take.ensures.after c.take.ensures.counts in
    let here = length c.args.self.now.table.replies in
    let same = sym (counts_line g.J.Run.script here (accepted_there g.J.Run.script (length c.args.self.now.table.replies) c.index-lines-len.result c.args.self.now.state c.take.new.self (Drained c.in-Drained.reply) came)) in
    let handed = c.requires.taken.handed_over in
    let drained = c.drain.ensures.drained.collected in
    let mine : CollectorFacts = c.drain.new.collector in
    let given = ap (λ (k : CollectorFacts). k.given) drained.collector ∙ handed.tokens in
    on_ok c.reply_and_follow.result _ _
    (λ passed. record {
      at = subst (λ n. IsAt g.J.Run.script g.J.Run.queue (n + 1) c.reply_and_follow.new.self) drained.lines passed.at;
      handed_over = record {
        pushes = handed.pushes;
        collects = drained.collecting.own;
        pushed = handed.pushed ∙ same;
        not_ended = handed.not_ended;
        tokens = given ∙ same;
        awaited = passed.awaited mine.given mine.collected (given ∙ ap (accepted_before g.J.Run.script) (sym drained.lines)) drained.collecting.awaited;
      };
    })
    c.reply_and_follow.ensures.passed

pub returns-in-Replied-clause-taken : goal.returns-in-Replied-clause-taken
returns-in-Replied-clause-taken g c =
    let came = came_to g.J.Run.script g.J.Run.script (length c.args.self.now.table.replies) c.len.result c.lines.result.now c.index-lines-len.result c.args.self.now.state c.take.new.self (Replied c.in-Replied.reply) refl
    (c.lines.ensures ∙ ap (λ (s : Meant). s.lines) (c.script.ensures ∙ c.context.invariant.0.its_script)) c.len.ensures c.requires.more c.index-lines-len.is c.requires.taken.at.state c.in-Replied.ensures.outcome c.take.ensures.after c.take.ensures.counts in
    let here = length c.args.self.now.table.replies in
    let same = sym (counts_line g.J.Run.script here (accepted_there g.J.Run.script (length c.args.self.now.table.replies) c.index-lines-len.result c.args.self.now.state c.take.new.self (Replied c.in-Replied.reply) came)) in
    let handed = c.requires.taken.handed_over in
    let mine : CollectorFacts = c.args.ends.now.collector in
    on_ok c.reply_and_follow-in-Replied.result _ _
    (λ passed. record {
      at = passed.at;
      handed_over = record {
        pushes = handed.pushes;
        collects = handed.collects;
        pushed = handed.pushed ∙ same;
        not_ended = handed.not_ended;
        tokens = handed.tokens ∙ same;
        awaited = passed.awaited mine.given mine.collected handed.tokens handed.awaited;
      };
    })
    c.reply_and_follow-in-Replied.ensures.passed

pub returns-in_err-drain-in-Drained-clause-points_err : goal.returns-in_err-drain-in-Drained-clause-points_err
returns-in_err-drain-in-Drained-clause-points_err g c =
    let came = came_to g.J.Run.script g.J.Run.script (length c.args.self.now.table.replies) c.len.result c.lines.result.now c.index-lines-len.result c.args.self.now.state c.take.new.self (Drained c.in-Drained.reply) refl
    (c.lines.ensures ∙ ap (λ (s : Meant). s.lines) (c.script.ensures ∙ c.context.invariant.0.its_script)) c.len.ensures c.requires.more c.index-lines-len.is c.requires.taken.at.state c.in-Drained.ensures.outcome c.take.ensures.after c.take.ensures.counts in
    let drains = drains_there g.J.Run.script (length c.args.self.now.table.replies) c.index-lines-len.result c.args.self.now.state c.take.new.self (Drained c.in-Drained.reply) came in
    always_err _ _ (inr (drained_passes g.J.Run.script (length c.args.self.now.table.replies) c.args.self.now.accepted c.args.self.now.points c.drain.new.self.points c.drain.new.self.points drains c.requires.taken.at.counted.is c.drain.ensures.point refl))

pub returns-in_ok-drain-in-Drained-clause-points : goal.returns-in_ok-drain-in-Drained-clause-points
returns-in_ok-drain-in-Drained-clause-points g c =
    let came = came_to g.J.Run.script g.J.Run.script (length c.args.self.now.table.replies) c.len.result c.lines.result.now c.index-lines-len.result c.args.self.now.state c.take.new.self (Drained c.in-Drained.reply) refl
    (c.lines.ensures ∙ ap (λ (s : Meant). s.lines) (c.script.ensures ∙ c.context.invariant.0.its_script)) c.len.ensures c.requires.more c.index-lines-len.is c.requires.taken.at.state c.in-Drained.ensures.outcome c.take.ensures.after c.take.ensures.counts in
    let drains = drains_there g.J.Run.script (length c.args.self.now.table.replies) c.index-lines-len.result c.args.self.now.state c.take.new.self (Drained c.in-Drained.reply) came in
    always_ok _ _ (inl (drained_passes g.J.Run.script (length c.args.self.now.table.replies) c.args.self.now.accepted c.args.self.now.points c.drain.new.self.points c.reply_and_follow.new.self.points drains c.requires.taken.at.counted.is c.drain.ensures.point c.reply_and_follow.ensures.points))

pub returns-in_ok-drain-in-Drained-clause-points_err : goal.returns-in_ok-drain-in-Drained-clause-points_err
returns-in_ok-drain-in-Drained-clause-points_err g c =
    let came = came_to g.J.Run.script g.J.Run.script (length c.args.self.now.table.replies) c.len.result c.lines.result.now c.index-lines-len.result c.args.self.now.state c.take.new.self (Drained c.in-Drained.reply) refl
    (c.lines.ensures ∙ ap (λ (s : Meant). s.lines) (c.script.ensures ∙ c.context.invariant.0.its_script)) c.len.ensures c.requires.more c.index-lines-len.is c.requires.taken.at.state c.in-Drained.ensures.outcome c.take.ensures.after c.take.ensures.counts in
    let drains = drains_there g.J.Run.script (length c.args.self.now.table.replies) c.index-lines-len.result c.args.self.now.state c.take.new.self (Drained c.in-Drained.reply) came in
    always_err _ _ (inr (drained_passes g.J.Run.script (length c.args.self.now.table.replies) c.args.self.now.accepted c.args.self.now.points c.drain.new.self.points c.reply_and_follow.new.self.points drains c.requires.taken.at.counted.is c.drain.ensures.point c.reply_and_follow.ensures.points))

pub returns-in-Replied-clause-points : goal.returns-in-Replied-clause-points
returns-in-Replied-clause-points g c =
    let came = came_to g.J.Run.script g.J.Run.script (length c.args.self.now.table.replies) c.len.result c.lines.result.now c.index-lines-len.result c.args.self.now.state c.take.new.self (Replied c.in-Replied.reply) refl
    (c.lines.ensures ∙ ap (λ (s : Meant). s.lines) (c.script.ensures ∙ c.context.invariant.0.its_script)) c.len.ensures c.requires.more c.index-lines-len.is c.requires.taken.at.state c.in-Replied.ensures.outcome c.take.ensures.after c.take.ensures.counts in
    let quiet = drains_there g.J.Run.script (length c.args.self.now.table.replies) c.index-lines-len.result c.args.self.now.state c.take.new.self (Replied c.in-Replied.reply) came in
    always_ok _ _ (replied_passes g.J.Run.script (length c.args.self.now.table.replies) c.args.self.now.points c.reply_and_follow-in-Replied.new.self.points c.requires.next quiet c.reply_and_follow-in-Replied.ensures.points)

pub returns-in-Replied-clause-points_err : goal.returns-in-Replied-clause-points_err
returns-in-Replied-clause-points_err g c = always_err _ _ (inl c.reply_and_follow-in-Replied.ensures.points)
