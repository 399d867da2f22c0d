use Rattle.std.proofs.Common.{◌∙◌, sym, subst}
use Rattle.in_flight.specs.Table.{Stands}
use Rattle.in_flight.proofs.Tables.{finds_there, stands_submitted}
use Rattle.in_flight.proofs.table.InFlightTable.submit.Goals as goal

pub returns-clause-stands : goal.returns-clause-stands
returns-clause-stands c =
    subst (λ replies. Stands c.args._script.now replies c.args.self.now.disk) (sym c.in_ok-push_owed.ensures.ok)
    (stands_submitted c.args._script.now c.args.self.now.replies c.args.self.now.disk c.args.request c.requires.stands c.requires.may_take.accepted c.requires.may_take.may_join)

pub returns-clause-found : goal.returns-clause-found
returns-clause-found c =
    c.in_ok-found.ensures ∙ finds_there c.args._script.now c.args.self.now.replies c.args.self.now.disk c.args.request c.requires.stands c.requires.may_take.accepted c.requires.may_take.may_join
