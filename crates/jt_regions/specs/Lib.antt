pub mod Kinds
pub mod Law
pub mod Steps
pub mod Stored
pub mod Tables
pub mod Changes
pub use Rattle.jt_region_bodies.specs.Regions
