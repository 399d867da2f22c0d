-- a pass's box, and the control's, as the lemmas on boxes see them
pub mod PassBox
pub mod ControlBox
-- what a closed handle returns
pub mod Closed
-- the reply to a try of an open pass, and what it leaves
pub mod Tries
-- what a look at the gate, and a guarded word, say of an open pass
pub mod Looks
-- what a gate that has ended leaves
pub mod Finals
-- what taking in a fresh pass leaves
pub mod Fresh
-- what the closing of a slot says
pub mod Steps
