pub mod Fitting
pub mod InPackets
