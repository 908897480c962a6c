pub mod Memory
pub mod Migrating
pub mod Places
pub mod Registry
pub mod Tables
pub mod Units
pub mod Vaults
pub mod Verdicts
