pub mod FenceLines
pub mod AlarmText
pub mod Tally
pub mod Beyond
pub mod Track
pub mod Running
