-- Tally: what contracts see of a `Counted`. Failures: how it counts. Reading, Writing: what is taken from a reader, and what is written to a writer.
-- InputFault: the numbers of the faults of reading.
pub mod Failures
pub mod InputFault
pub mod Reading
pub mod Tally
pub mod Writing
