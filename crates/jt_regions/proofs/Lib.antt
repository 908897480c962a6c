pub mod Filling
pub mod ChangeLaws
pub mod Changing
