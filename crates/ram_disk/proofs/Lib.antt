-- SectorBytes: sectors as their bytes, and the slices and replacements of a list of them. PatternSectors: the sectors of a repeated pattern.
-- RunLists: maximal runs, one run or one byte further, also if all except the last are taken away, and that there is one list of them. SectorWrites: a write, sector by sector, and two of
-- them in either order.
pub mod FilledSectors
pub mod Pasted
pub mod PatternSectors
pub mod RunLists
pub mod SectorBytes
pub mod SectorWrites
