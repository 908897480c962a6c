pub mod At
pub mod Layout
pub mod Answer
pub mod Reading
