use Rattle.std.proofs.Common.{◌≡◌, ◌∙◌, sym, ap, Ok, List, ℕ, Result, rules}
use Rattle.line_text.proofs.Fronts.{with_front}
use Rattle.line_text.specs.Answers.{at_line}
use Rattle.line_text.specs.declared.fault.Why.{Why}
use Rattle.gate_replay.specs.Schedules.{told_by, events_of}
use Rattle.gate_replay.proofs.Scheduling.{events_more}
use Rattle.gate_replay.proofs.schedule_parser.events.Goals as goal

pub loop-line-preserved : goal.loop-line-preserved
loop-line-preserved c =
    let told : at_line c.in-Some.line (told_by c.in-Some.said) ≡ Ok c.in_ok-event.event = search (rules, c.event.ensures, c.in_ok-event.was) in
    let more = events_more c.loop-line.events.items c.in-Some.line c.in-Some.said c.next.new.self.said c.in_ok-event.event told in
    let items = c.in_ok-push.ensures.items in
    let first = c.in-Some.ensures.said in
    let before = c.loop-line.invariant in
    rw items (sym more ∙ ap (λ (s : List (ℕ × Result (List (List ℕ)) Why)). with_front c.loop-line.events.items (events_of s)) (sym first) ∙ before)
