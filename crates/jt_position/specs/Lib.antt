pub mod Items
pub mod Positions
pub mod Views
pub mod BatchViews
pub mod Moments
pub mod Fixes
