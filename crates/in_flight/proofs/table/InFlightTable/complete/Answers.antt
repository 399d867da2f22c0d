use Rattle.std.proofs.Common.{arith}
use Rattle.ram_disk.specs.Sectors.{sectors_of}
use Rattle.in_flight.specs.Requests.{first_at}
use Rattle.in_flight.proofs.Tables.{answer_fits, stands_collected}
use Rattle.in_flight.proofs.table.InFlightTable.complete.Goals as goal

pub leave-requires : goal.leave-requires
leave-requires c =
    let fits = answer_fits c.args.script.now c.args.self.now.replies c.args.self.now.disk c.args.position c.args.answer.text (first_at c.args.script.now c.args.position) (sectors_of c.args.answer.sectors) c.requires.stands c.requires.answer in
    omega (arith, c.from.ensures, c.first_sector-start.ensures, fits)

pub returns-clause-stands : goal.returns-clause-stands
returns-clause-stands c =
    rw (c.fill.ensures, c.leave.ensures.written, c.from.ensures, c.first_sector-start.ensures)
    (stands_collected c.args.script.now c.args.self.now.replies c.args.self.now.disk c.args.position c.args.answer.text (first_at c.args.script.now c.args.position) (sectors_of c.args.answer.sectors)
    c.requires.stands c.requires.owed c.requires.answer)
