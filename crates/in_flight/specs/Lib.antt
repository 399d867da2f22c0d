-- Requests: what is due to a request, and what its answer is. Span: the disk of a run while requests are in flight. Table: how far the disk and the replies
-- have come. Lines: the bytes of a line, and lines in one text.
pub mod Lines
pub mod Requests
pub mod Span
pub mod Table
