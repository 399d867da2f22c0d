-- Grown: texts that have grown. Joins: texts that join parts by a byte. ClosedRuns: runs whose text is made while more come. Replies: one reply more. OneText: a script has one text.
pub mod ClosedRuns
pub mod Grown
pub mod Joins
pub mod OneText
pub mod Replies
