pub mod Order
pub mod Strangers
