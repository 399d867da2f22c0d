-- Numbers: lists of numbers, which of them increase, and what draws are. Totals: sums over passes. Allowed: what a rule allows a pass. Requests, Completions:
-- their rules. Parts: what a caller sees of the queues and of those who use them. Nobody: a placeholder for an id.
pub mod Numbers
pub mod Totals
pub mod Allowed
pub mod Requests
pub mod Completions
pub mod Parts
pub mod Nobody
