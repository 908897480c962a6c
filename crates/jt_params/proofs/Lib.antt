pub mod ParamLaws
pub mod TableLaws
