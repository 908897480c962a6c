pub mod Standing
pub mod Calls
pub mod Holding
pub mod Claim
