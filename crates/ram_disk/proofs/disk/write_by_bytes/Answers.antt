use Rattle.ram_disk.proofs.SectorBytes.{bytes_of-sectors_written}
use Rattle.ram_disk.proofs.disk.write_by_bytes.Goals as goal

pub returns : goal.returns
returns c = bytes_of-sectors_written
