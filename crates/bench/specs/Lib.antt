-- Own: the tag of a thread.
pub mod Own
