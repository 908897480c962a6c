pub mod Line
pub mod Feeding
