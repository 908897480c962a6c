pub mod Roots
pub mod Watched
