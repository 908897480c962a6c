pub mod FleetLines
pub mod FleetText
pub mod Naming
pub mod Reading
pub mod Platform
pub mod Running
pub mod Opening
