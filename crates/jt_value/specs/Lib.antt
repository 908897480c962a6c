pub mod Counts
pub mod Octets
pub mod Phone
pub mod Reaching
pub mod Room
pub mod Sameness
pub mod Serials
