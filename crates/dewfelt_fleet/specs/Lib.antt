pub mod Fleets
pub mod Names
