pub mod Kept
pub mod RegionLaws
