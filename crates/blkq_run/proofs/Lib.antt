-- What was read says as much as the whole input (Cutting, of an answer Answering, of a replay Showing), the statuses of faults (Ending) and
-- lists of one and of four words (Wording).
pub mod Answering
pub mod Cutting
pub mod Ending
pub mod Showing
pub mod Wording
