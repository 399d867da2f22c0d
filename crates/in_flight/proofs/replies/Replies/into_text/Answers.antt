use Rattle.std.proofs.Common.{◌∙◌, sym, ap, ◌++◌, map, Some}
use Rattle.in_flight.specs.Table.{joined}
use Rattle.in_flight.proofs.Places.{joined-append}
use Rattle.in_flight.proofs.replies.Replies.into_text.Goals as goal

pub returns : goal.returns
returns c =
    c.in_ok-add_lines.ensures ∙ ap (λ t. t ++ joined c.self.inside.rest.items) c.into_text-text.ensures
    ∙ sym (joined-append (map Some c.self.inside.told) c.self.inside.rest.items) ∙ ap joined c.self.view_is
