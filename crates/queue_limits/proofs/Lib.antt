-- Chunks: how far it is to the next multiple of a chunk. PowersOfTwo: which numbers have one bit. Blocks: where the last physical block within
-- the reach ends. Splits: one piece more in front of a split, and that a range has one split. LongestPieces: which it is if a block is one sector.
pub mod Chunks
pub mod PowersOfTwo
pub mod Blocks
pub mod Splits
pub mod LongestPieces
