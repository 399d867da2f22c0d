-- Script: what a script says. Queue: the queue without its disk. Taken: the outcome of a line, and the queue after it. Meaning: the disk and the replies.
-- Replies: which replies have pieces. Pattern: the bytes of a pattern. Requests: what is at each position of a script.
pub mod Meaning
pub mod Pattern
pub mod Queue
pub mod Replies
pub mod Requests
pub mod Script
pub mod Taken
