-- What the contracts of this crate cite: what a line says (WorldLine, EventLine), which schedule a text means (Schedules), what a
-- replay writes (ReplyLines, Shown), and that this is a run of the gate's machine (Laws).
pub mod EventLine
pub mod Laws
pub mod ReplyLines
pub mod Schedules
pub mod Shown
pub mod WorldLine
