pub mod RelayWords
pub mod Replies
pub mod Running
