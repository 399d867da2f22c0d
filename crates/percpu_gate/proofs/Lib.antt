-- what the laws say to a seat at a moment
pub mod Known
-- the shared word's number, and its parts
pub mod SharedWords
-- one word is changed, and the others stay
pub mod Places
-- a step is allowed if it is an enabled event
pub mod Allowed
-- each step of a pass: what it writes, and its reply
pub mod PassSteps
-- the steps of a pass on a slot
pub mod SlotSteps
-- the steps of a put, and of the end of a try, together
pub mod PassCalls
-- the steps of a call
pub mod CallSteps
-- what a look at a slot and an exchange leave
pub mod SlotCounts
-- whether a try found its mark, by a step of its own
pub mod TryMeets
-- what a try found and leaves
pub mod Tries
-- what the pass itself keeps of it
pub mod TryEnds
-- what a look, a front and a word show
pub mod Grounds
-- what the control's steps share, and those of a kill, of a revival, and on guarded words
pub mod ControlSteps
pub mod KillSteps
pub mod RevivalSteps
pub mod WordSteps
-- its steps of a switch
pub mod SwitchSteps
pub mod SwitchCalls
-- what the replies to the control's steps show
pub mod ControlGrounds
-- a new table, and the seats that are made and taken in
pub mod Making
-- the last moment of a gate
pub mod Ending
