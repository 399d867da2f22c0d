-- a tag's box, and the freezer's, as the lemmas on boxes see them
pub mod TagBox
pub mod FreezerBox
-- a closed handle answers so
pub mod Closed
-- a freezer stays one of its queue
pub mod Kept
-- what a queue that has ended leaves
pub mod Finals
-- tags that wait, and tags that try to enter
pub mod Waiting
