pub mod Item
pub mod Message
pub mod Stream
pub mod Unplaced
