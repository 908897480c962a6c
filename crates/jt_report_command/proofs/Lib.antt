-- How the proofs lie, for who changes them.
--
-- Open: that a vault none of whose calls may fail gives no store fault is said of note_fixes and attempt, and not of the run as a
-- whole.

mod Accepting
mod Answered
mod Apart
mod Hosts
mod Passing
mod Phones
mod Recording
mod Scripted
mod Started
mod Example
mod Timing
mod Tries
pub mod Causes
mod Runs
mod GoodLines
mod Completing
mod Words
