use Rattle.std.proofs.Common.{sym, subst}
use Rattle.in_flight.specs.Table.{Stands}
use Rattle.in_flight.proofs.Tables.{on_ok, stands_line_taken}
use Rattle.in_flight.proofs.table.InFlightTable.reply.Goals as goal

pub returns-clause-stands : goal.returns-clause-stands
returns-clause-stands c =
    on_ok c.push.result _ _
    (λ is. subst (λ replies. Stands c.args._script.now replies c.args.self.now.disk) (sym is)
    (stands_line_taken c.args._script.now c.args.self.now.replies c.args.self.now.disk c.args.text.items c.requires.stands c.requires.may_take.refused c.requires.may_take.passes c.requires.may_take.reply))
    c.push.ensures.ok
