pub mod Seats
pub mod Verdicts
