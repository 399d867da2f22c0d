-- Handed: the text and the line that a page finds. Script: the answer to a script. Schedule: the answer to a schedule. Race: the answer
-- to a race. Statuses: the status of a fault.
pub mod Handed
pub mod Race
pub mod Schedule
pub mod Script
pub mod Statuses
