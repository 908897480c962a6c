pub mod Content
pub mod Fields
pub mod Law
pub mod Reason
