-- Rows: commands in a row, and one more. Cuts: requests with their commands, and one more.
pub mod Cuts
pub mod Rows
