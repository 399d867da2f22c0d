-- Parsing and Grammar: which script a text means. Texts: the line of each reply. Answer: what a run on one thread writes. Closed and Machine: for the code of
-- that run.
pub mod Answer
pub mod Closed
pub mod Grammar
pub mod Machine
pub mod Parsing
pub mod Texts
