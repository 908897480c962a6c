pub mod Answered
pub mod Problems
