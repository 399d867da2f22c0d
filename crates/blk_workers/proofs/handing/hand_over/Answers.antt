use Rattle.std.proofs.Common.{◌≡◌, ◌∙◌, ◌+◌, ◌++◌, ◌∷◌, [], ap, sym, subst, true, arith, length, is_some, None}
use Rattle.std.proofs.lemmas.List.{length-append}
use Rattle.script_meaning.specs.Script.{Meant}
use Rattle.script_meaning.specs.Requests.{accepted_at, accepted_before}
use Rattle.run_queues.specs.Parts.{CollectorFacts, TokenFacts, SourceFacts}
use Rattle.in_flight.specs.Table.{MayTakeRequest, Stands}
use Rattle.in_flight.specs.Requests.{IsDue, found_at}
use Rattle.in_flight.proofs.NextLines.{due_at}
use Rattle.in_flight.proofs.Numbering.{counts_request}
use Rattle.ram_disk.specs.Sectors.{sectors_of}
use Rattle.blk_workers.specs.Progress.{AreAwaited}
use Rattle.blk_workers.proofs.Awaited.{awaited_submitted}
use Rattle.blk_workers.proofs.handing.hand_over.Goals as goal

pub submit-requires-clause-may_take : goal.submit-requires-clause-may_take
submit-requires-clause-may_take g c =
    subst (λ (s : Meant). MayTakeRequest s c.args.table.now.replies c.args.accepted.request) (sym (c.script.ensures ∙ c.context.invariant.0.its_script)) c.requires.ready.may_take

pub new-job-requires-clause-job : goal.new-job-requires-clause-job
new-job-requires-clause-job g c =
    let script = g.J.Run.script in
    let here = length c.args.table.now.replies in
    let found = sectors_of c.in_ok-found.found in
    let ready = c.requires.ready in
    record {
      own = c.entered-tag.ensures.own;
      entered = c.entered-tag.ensures.entered;
      limits = c.args.accepted.limits;
      told = c.entered-tag.ensures.told;
      may_tell = ap (λ (d : TokenFacts). d.queue) c.token-token.ensures.token ∙ c.context.invariant.1.its_completions;
      numbered = record {
        accepted = subst (λ p. is_some (accepted_at script p) ≡ true) (sym c.len-position.ensures) (ap is_some ready.may_take.accepted);
        count = ap (accepted_before script) c.len-position.ensures ∙ sym ready.number ∙ sym (ap (λ (d : TokenFacts). d.number) c.token-token.ensures.token);
      };
      due = subst (λ p. IsDue script p c.args.accepted.limits found) (sym c.len-position.ensures)
          (due_at script here c.args.accepted.request c.args.accepted.limits found ready.may_take.accepted ready.limits
          (subst (λ (s : Meant). found ≡ found_at s here c.args.accepted.request) (c.script.ensures ∙ c.context.invariant.0.its_script) c.in_ok-found.ensures.found));
    }

pub returns-clause-handed_over : goal.returns-clause-handed_over
returns-clause-handed_over g c =
    let old = c.args.table.now.replies in
    let script = g.J.Run.script in
    let request = c.args.accepted.request in
    let there = c.requires.ready.may_take.accepted in
    let more = counts_request script (length old) request there in
    let handed = c.requires.handed_over in
    let mine : CollectorFacts = c.args.ends.now.collector in
    let given = c.token-token.ensures.collector in
    let before : SourceFacts = c.args.ends.now.source in
    let entered : SourceFacts = c.entered-tag.new.source in
    let same : entered ≡ before = c.entered-tag.ensures.source in
    let replies : length c.submit.new.self.replies ≡ length old + 1 = ap length c.in_ok-found.ensures.owed ∙ length-append old (None ∷ []) in
    record {
      stands = subst (λ (s : Meant). Stands s c.submit.new.self.replies c.submit.new.self.disk) (c.script.ensures ∙ c.context.invariant.0.its_script) c.in_ok-found.ensures.stands;
      lines = replies;
      all = record {
        pushes = ap (λ (s : SourceFacts). s.queue) c.push.ensures ∙ ap (λ (s : SourceFacts). s.queue) same ∙ handed.pushes;
        collects = ap (λ (k : CollectorFacts). k.queue) given ∙ handed.collects;
        pushed = ap (λ (s : SourceFacts). s.pushed) c.push.ensures ∙ ap (λ n. n + 1) (ap (λ (s : SourceFacts). s.pushed) same ∙ handed.pushed) ∙ sym more;
        not_ended = ap (λ (s : SourceFacts). s.marks) c.push.ensures ∙ ap (λ (s : SourceFacts). s.marks) same ∙ handed.not_ended;
        tokens = ap (λ (k : CollectorFacts). k.given) given ∙ ap (λ n. n + 1) handed.tokens ∙ sym more;
        awaited =
            subst (λ replies. AreAwaited script replies c.token-token.new.collector.given c.token-token.new.collector.collected) (sym c.in_ok-found.ensures.owed)
            (subst (λ (k : CollectorFacts). AreAwaited script (old ++ None ∷ []) k.given k.collected) (sym given)
            (awaited_submitted script old mine.given mine.collected request handed.tokens there handed.awaited));
      };
    }

-- so many are to come at most as replies are owed, which are as many as there are tags at most
pub returns-in_err-found-clause-room : goal.returns-in_err-found-clause-room
returns-in_err-found-clause-room g c = omega (arith, c.requires.handed_over.awaited.no_more, c.requires.few)

pub returns-clause-room : goal.returns-clause-room
returns-clause-room g c =
    let given = c.token-token.ensures.collector in
    omega (arith, ap (λ (k : CollectorFacts). k.given) given, ap (λ (k : CollectorFacts). length k.collected) given, c.requires.handed_over.awaited.no_more, c.requires.few)
