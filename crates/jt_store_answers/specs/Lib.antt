pub mod Counted
pub mod Untold
