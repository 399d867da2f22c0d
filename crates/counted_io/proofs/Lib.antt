-- Taking: what was taken from a reader, one piece further. Sending: what went out to a writer, one piece further.
pub mod Sending
pub mod Taking
