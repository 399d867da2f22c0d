pub mod Stages
pub mod Keeps
pub mod Moments
pub mod Allowed
pub mod LaneSteps
pub mod FreezerSteps
pub mod Sits
