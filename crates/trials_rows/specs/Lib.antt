-- Changes: what is read after a change of limits.
pub mod Changes
