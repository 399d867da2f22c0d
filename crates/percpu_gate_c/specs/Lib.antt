pub mod Opened
pub mod PassHolding
pub mod ControlHolding
pub mod Numbers
pub mod PassCalls
pub mod ControlCalls
pub mod KillSteps
pub mod Life
