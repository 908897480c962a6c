pub mod World
pub mod Steps
pub mod Claim
pub mod Relay
pub mod Gateway
pub mod Pumping
