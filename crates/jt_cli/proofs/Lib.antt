pub mod Asking
pub mod Runs
pub mod ScriptRuns
pub mod StatusesOfRuns
pub mod TaskWords
pub mod Telling
pub mod ToldWords
