pub mod Faults
pub mod Ledgers
pub mod Terminals
pub mod Feeding
