-- Sector: what a sector is, and the bytes of several. Disk: a disk, and its reads and writes. Pattern: what a write's pattern makes. Runs: maximal runs of
-- equal bytes. Writes: the laws of reads and writes, one sector at a time, two in a row and by bytes. DiskFault: the numbers of the faults.
pub mod Disk
pub mod DiskFault
pub mod Kinds
pub mod Pattern
pub mod Runs
pub mod Sector
pub mod Sectors
pub mod Writes
