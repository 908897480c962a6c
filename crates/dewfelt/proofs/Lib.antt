-- How the proofs lie, for who changes them.
--
-- Crosses has that the keeper of a file may go to a thread, as jt_sql has it of the keeper within.

pub mod Crosses
