pub mod Headers
pub mod Heard
pub mod Turns
pub mod Frames
