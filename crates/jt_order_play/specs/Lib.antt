pub mod Playing
pub mod Holding
pub mod Scripts
