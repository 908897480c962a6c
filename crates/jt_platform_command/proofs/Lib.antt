-- How the proofs lie, for who changes them.
--
-- The command is proved over jt_server by records: what came of it, its text, what a run does. Goals are seen in
-- forty seconds over copies of the lower crates whose called functions have a body that never returns (PROVING,
-- 'How the gate works').

mod Hearing
mod Folds
mod Causes
