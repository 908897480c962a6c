pub mod Lines
pub mod Texts
pub mod Script
pub mod Beyond
pub mod Hearing
pub mod Running
