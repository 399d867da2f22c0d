-- Contexts: what threads share. Jobs: what a worker receives and hands back. Progress: how far the submitter has come, with its freezer, and the result of a
-- run. Following: how the queue's freezer follows a script. Points: which points a run passes. Sizes: how many workers, slots and tags a run has. Faults: the
-- numbers of faults. Nobody: placeholders for a run's names.
pub mod Faults
pub mod Following
pub mod Contexts
pub mod Jobs
pub mod Nobody
pub mod Points
pub mod Progress
pub mod Sizes
