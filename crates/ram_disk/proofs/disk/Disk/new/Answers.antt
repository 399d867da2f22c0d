use Rattle.std.proofs.Common.{replicate, ap, ◌∙◌}
use Rattle.ram_disk.specs.Sector.{bytes_of}
use Rattle.ram_disk.proofs.SectorBytes.{bytes_of-replicate-filled_with}
use Rattle.ram_disk.proofs.disk.Disk.new.Goals as goal

pub returns-clause-bytes : goal.returns-clause-bytes
returns-clause-bytes c =
    let shared = c.in_ok-sectors.ensures.items_if_clones_equal (λ _ e. e) in
    ap bytes_of (shared ∙ ap (λ sector. replicate c.args.sectors sector) c.filled.ensures)
    ∙ bytes_of-replicate-filled_with c.args.sectors 0
