-- How the proofs lie, for who changes them.
--
-- A fleet's invariant says that no bound name is among the others; that no name is bound twice is what RegistrationTable keeps. Apart
-- has a lemma for each change. NameSets leads from std's sets to lists that are looked through.

pub mod Apart
pub mod NameSets
