-- The definitions that this crate's contracts cite. Reading: the calls of a line by their words (CallWords), the spelling of the calls of a pass
-- (PassCalls) and of the control (ControlCalls), the conditions that they wait for (Waits), and the race that a text describes (Races). Printing: a world
-- (Worlds), a step, and that it is read back (Steps), the answers to calls (Answers), outcomes (Shown), a line for each outcome (Summaries), the schedules
-- (Schedules), and both forms (Written). The program: the answer to an input (Answer), the facts about a fault (Faults), what the arguments ask for
-- (Requests), and the meaning of the status (Statuses).
pub mod Answer
pub mod Answers
pub mod CallWords
pub mod ControlCalls
pub mod Faults
pub mod PassCalls
pub mod Races
pub mod Requests
pub mod Schedules
pub mod Shown
pub mod Statuses
pub mod Steps
pub mod Summaries
pub mod Waits
pub mod Worlds
pub mod Written
