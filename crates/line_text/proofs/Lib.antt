-- Fronts: lines that were read in front of those to come. LineLemmas: the first line of a text. WordLemmas: the first word of a line.
pub mod Fronts
pub mod LineLemmas
pub mod WordLemmas
