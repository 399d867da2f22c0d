-- Commands: the commands of a request. Lanes: those of a thread with a tag of its own. Removal: the results of a request and of a
-- removal. Racing: what the threads of a race hand to one another. Settings: what a change of limits leaves.
pub mod Commands
pub mod Lanes
pub mod Racing
pub mod Removal
pub mod Settings
