use Rattle.ram_disk.proofs.SectorBytes.{bytes_of-sectors_read}
use Rattle.ram_disk.proofs.disk.read_by_bytes.Goals as goal

pub returns : goal.returns
returns c = bytes_of-sectors_read
