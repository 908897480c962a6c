pub mod Logfmt
pub mod Time
pub mod Rate
