-- Overlap: what the contract of `check` cites. Ordered: the requests before which the queue has to drain. Decided: what a checked script keeps. SpanOfRequests
-- and Span: the sectors that the requests of a span touch. Partners: for the search for the earlier line.
pub mod Decided
pub mod Ordered
pub mod Overlap
pub mod Partners
pub mod Span
pub mod SpanOfRequests
