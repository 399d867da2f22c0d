pub mod Totals
pub mod Increasing
pub mod RequestSteps
pub mod Gathered
pub mod CompletionSteps
