use Rattle.std.proofs.Common.{◌∙◌, sym, ap, arith, length}
use Rattle.script_meaning.specs.Requests.{accepted_at}
use Rattle.script_meaning.specs.Script.{Meant}
use Rattle.blk_workers.proofs.submitter.Submitter.take_next.Goals as goal

pub submit-requires-clause-next : goal.submit-requires-clause-next
submit-requires-clause-next g c κs within = record {
  few = omega (arith, c.requires.more, c.context.invariant.0.few_lines);
  accepted = sym (c.in-Some.ensures ∙ ap (accepted_at c.context.inside.checked.now) c.len.ensures ∙ ap (λ (s : Meant). accepted_at s (length c.args.self.now.table.replies)) c.context.invariant.0.its_script);
}
