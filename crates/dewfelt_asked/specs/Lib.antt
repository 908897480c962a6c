pub mod Access
pub mod Gates
pub mod Hosts
pub mod Paths
