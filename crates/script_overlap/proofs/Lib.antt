-- Bitmaps: touched sectors as bits. Counting: how many requests are accepted. PartnerLemmas, SpanLemmas: clashing requests and touched sectors, one line further. Overlaps: the
-- first overlap of a script. OrderedLemmas, OrderedLines: its ordered requests. Written: what is written of each line.
pub mod Bitmaps
pub mod Counting
pub mod OrderedLemmas
pub mod OrderedLines
pub mod Overlaps
pub mod PartnerLemmas
pub mod SpanLemmas
pub mod Written
