use Rattle.std.proofs.Common.{◌∙◌, sym, ap, arith}
use Rattle.ram_disk.specs.Kinds.{bytes_of_kind}
use Rattle.ram_disk.proofs.FilledSectors.{in_table}
use Rattle.ram_disk.proofs.sector.Sector.bytes.Goals as goal

pub returns-in-Filled-clause-value : goal.returns-in-Filled-clause-value
returns-in-Filled-clause-value c =
    c.filled_bytes.ensures ∙ in_table c.in-Filled.byte (omega arith) ∙ sym (ap bytes_of_kind c.in-Filled.is) ∙ c.self.view_is
