use Rattle.std.proofs.Common.{◌≡◌, ◌∙◌, sym, ap, subst, ◌+◌, arith, length}
use Rattle.run_queues.specs.Parts.{CollectorFacts, SourceFacts}
use Rattle.script_meaning.specs.Queue.{Queue}
use Rattle.script_meaning.specs.Taken.{request_counted}
use Rattle.blk_workers.specs.Progress.{AreHandedOver}
use Rattle.in_flight.proofs.NextLines.{counted_there}
use Rattle.in_flight.proofs.Numbering.{counts_request}
use Rattle.blk_workers.specs.Following.{IsInStep}
use Rattle.blk_workers.proofs.InStep.{in_step_counted}
use Rattle.blk_workers.proofs.PassedPoints.{accepted_passes, always_err, ordered_may_pass}
use Rattle.blk_workers.proofs.submitter.Submitter.submit.Goals as goal

pub returns-clause-taken : goal.returns-clause-taken
returns-clause-taken g c =
    let script = g.J.Run.script in
    let here = length c.args.self.now.table.replies in
    let way = c.in_ok-make_way.ensures.collected in
    let next = c.requires.next in
    let counted = c.requires.taken.at.counted in
    let counts : c.count.new.self ≡ request_counted c.args.self.now.state c.args.request = c.count.ensures ∙ ap (λ (q : Queue). request_counted q c.args.request) way.state in
    let over = c.in_ok-hand_over.ensures.handed_over in
    let source : SourceFacts = c.hand_over.new.ends.source in
    let collector : CollectorFacts = c.hand_over.new.ends.collector in
    record {
      at = record {
        stands = over.stands;
        lines = over.lines ∙ ap (λ n. n + 1) way.lines;
        state = counted_there script here c.args.request c.args.self.now.state c.count.new.self next.accepted c.requires.taken.at.state counts;
        freezer = way.follows;
        in_step = subst (λ (q : Queue). IsInStep q c.make_way.new.self.freezer) (sym c.count.ensures)
            (in_step_counted c.make_way.new.self.state c.args.request c.make_way.new.self.freezer c.in_ok-make_way.ensures.in_step);
        counted = record {
          is = ap (λ n. n + 1) (way.accepted ∙ counted.is) ∙ sym (counts_request script here c.args.request next.accepted);
          few = omega (arith, way.accepted, counted.few);
        };
      };
      handed_over = subst (λ n. AreHandedOver script g.L.QueueNames.requests g.C.QueueName.id (n + 1) c.hand_over.new.table.replies source collector) way.lines over.all;
    }

pub returns-clause-points : goal.returns-clause-points
returns-clause-points g c =
    accepted_passes g.J.Run.script (length c.args.self.now.table.replies) c.args.request c.args.self.now.points c.make_way.new.self.points c.requires.next.accepted c.in_ok-make_way.ensures.points

pub returns-in_err-hand_over-clause-points_err : goal.returns-in_err-hand_over-clause-points_err
returns-in_err-hand_over-clause-points_err g c =
    always_err _ _ (ordered_may_pass g.J.Run.script (length c.args.self.now.table.replies) c.args.self.now.points c.make_way.new.self.points c.in_ok-make_way.ensures.points)
