pub mod Looks
pub mod Waits
