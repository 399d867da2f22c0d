-- Answer: the answer to an input. Faults: the numbers, kinds and statuses of faults. Requests: what the words after the program's name ask for. Statuses: what
-- the program's status means.
pub mod Answer
pub mod Faults
pub mod Requests
pub mod Statuses
