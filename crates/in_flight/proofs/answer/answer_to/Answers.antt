use Rattle.std.proofs.Common.{◌∙◌, ap, get_or}
use Rattle.ram_disk.specs.Sectors.{sectors_of}
use Rattle.in_flight.proofs.RequestLines.{if_ok, from_read, from_write}
use Rattle.in_flight.proofs.answer.answer_to.Goals as goal

pub returns-in-Read : goal.returns-in-Read
returns-in-Read c =
    if_ok c.read.result _ _
    (λ a is. from_read c.args.script.now c.args.position c.args.limits (sectors_of c.args.found.now) c.requires c.index-lines-position.result c.in-Read.start c.in-Read.count (c.index-lines-position.is ∙ ap (λ ls. get_or ls c.args.position c.index-lines-position.result) c.lines.ensures) c.in-Read.is a is)
    c.read.ensures

pub returns-in-Write : goal.returns-in-Write
returns-in-Write c =
    if_ok c.write.result _ _
    (λ a is. from_write c.args.script.now c.args.position c.args.limits (sectors_of c.args.found.now) c.requires c.index-lines-position.result c.in-Write.start c.in-Write.count c.in-Write.pattern (c.index-lines-position.is ∙ ap (λ ls. get_or ls c.args.position c.index-lines-position.result) c.lines.ensures) c.in-Write.is a is)
    c.write.ensures
