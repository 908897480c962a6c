pub mod Histories
pub mod Passes
pub mod Rules
pub mod Seats
