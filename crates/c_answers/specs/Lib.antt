pub mod Numbers
pub mod Ran
