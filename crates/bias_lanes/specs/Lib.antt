pub mod Lanes
pub mod Rule
pub mod Steps
pub mod Seats
pub mod Laws
