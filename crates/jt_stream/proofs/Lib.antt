pub mod Gaining
pub mod Judging
pub mod Messages
