pub mod Registries
pub mod RowPages
pub mod Rules
pub mod Shared
pub mod Sweeps
