pub mod Params
pub mod Tables
pub mod Refused
