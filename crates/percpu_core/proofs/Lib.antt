-- tests of a step's own, and lists of views and of slots changed at one place
pub mod Flags
pub mod Passes
pub mod SlotLists
-- what the sum law says in plain numbers
pub mod Counting
-- a step of a pass keeps the laws: what holds of all, then each event on the shared word, then each on a slot
pub mod PassKeeps
pub mod PassEvents
pub mod SlotEvents
-- a step of the control keeps the laws: what holds of all, what its phase implies, then each event of a kill, of a revival and on the slots, and the taking in of a pass
pub mod ControlKeeps
pub mod ControlSetting
pub mod KillEvents
pub mod RevivalEvents
pub mod SlotsKeep
pub mod SwitchEvents
pub mod Joining
-- the start of a gate keeps the laws
pub mod Opening
-- an enabled event keeps the laws: what the tests of a refusal say, handed to the lemma of the event
pub mod Enabled
-- what a world keeps, and the room that its enabled steps find on its words
pub mod Kept
pub mod Room
pub mod WorldSteps
-- two passes may change places
pub mod Exchanging
pub mod HeldByAll
-- runs of any length, what holds after them, and the moves of the plain counter
pub mod Runs
pub mod Sameness
pub mod EveryRun
pub mod Moves
pub mod Endings
-- the same over all views in one list, as a running gate needs it: that each step keeps the laws, that it fits, and what the words of slots imply
pub mod SeatSteps
pub mod Fitting
pub mod SlotNumbers
-- what a pass that holds nothing may have read, and that a step which nothing hinders is enabled
pub mod Readings
