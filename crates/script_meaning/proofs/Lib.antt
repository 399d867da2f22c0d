-- Cases: every case of the table. Queues: what a line comes to, and what it changes of a queue. Positions: a script's queue and state one
-- line further, and what stands at a line. Numbers: the numbers of accepted requests. Disks: a disk stays as long as it is.
-- AcceptedReplies: which replies have pieces. Counted: a line whose request is accepted.
pub mod AcceptedReplies
pub mod Cases
pub mod Counted
pub mod Disks
pub mod Numbers
pub mod Positions
pub mod Queues
