pub mod Parts
pub mod Partials
pub mod Fates
pub mod Joining
pub mod Stored
pub mod Steps
