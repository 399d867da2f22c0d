use Rattle.std.proofs.Common.{◌∙◌, sym, ap, map, Some}
use Rattle.in_flight.specs.Table.{joined}
use Rattle.in_flight.proofs.TextLines.{joined_is_text}
use Rattle.in_flight.proofs.replies.JoinedLines.into_text.Goals as goal

pub returns : goal.returns
returns c = sym (joined_is_text c.self.inside.lengths.items c.self.inside.text.items c.self.invariant) ∙ ap (λ ls. joined (map Some ls)) c.self.view_is
