-- Steps that were read in front of those to come (Scheduling), and what is shown as a run of the machine (ShownRuns).
pub mod Scheduling
pub mod ShownRuns
