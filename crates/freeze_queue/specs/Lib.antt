-- What a tag and a freezer know, and what each call leaves, is defined in queue_core; callers find it here too.
pub use Rattle.queue_core.specs.Queue
pub use Rattle.queue_core.specs.Readings
pub use Rattle.queue_core.specs.AtTheGate
pub use Rattle.queue_core.specs.Sets
pub use Rattle.queue_core.specs.BiasedTags
pub use Rattle.queue_core.specs.BiasedSteps
pub mod Entering
pub mod Lanes
pub mod Waiting
pub mod Removal
