-- what a closed handle returns
pub mod Closed
