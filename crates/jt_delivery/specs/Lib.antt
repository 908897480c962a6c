pub mod World
pub mod Steps
pub mod Reaching
pub mod Record
pub mod Parts
pub mod Claim
