pub mod ItemLaws
pub mod ViewLaws
pub mod BatchViewLaws
pub mod MomentLaws
pub mod FixLaws
