-- LineSteps: what a line does to a sector of the disk. Spans: the disk of a run while requests are under way. Places: lists of replies
-- one step further. RequestLines: what a request is answered, at its line. Tables: the disk and the replies, one step further. Numbering: the
-- numbers of accepted requests. TextLines: lines that stand in one text, and behind them those
-- that are owed. Ends: the replies, once none is owed. NextLines: the script's queue one
-- line further, and what a request is due to.
pub mod LineSteps
pub mod Spans
pub mod Places
pub mod RequestLines
pub mod Tables
pub mod Ends
pub mod NextLines
pub mod Numbering
pub mod TextLines
