-- Bounds: what limits are. Pieces: what a range is cut into. Greedy: which list that is. LongestPieces: what the list is if a physical block is one sector.
-- Words: limits as three words. FaultNumber: the numbers of the faults.
pub mod Bounds
pub mod FaultNumber
pub mod Greedy
pub mod LongestPieces
pub mod Pieces
pub mod Words
