-- How the proofs lie, for who changes them.
--
-- The passes of all sessions are split off before the loop that accepts (src/passes); it takes them from the end of
-- a list, whose rest is joined behind it. The loop that accepts and the loop that joins are functions of their own, and each knows only records of plain
-- values: what the m-th thread was given (IsGiven), what it brought back (IsWorked), that its pass was joined
-- (IsJoined). A job is a Result of a handle and of the work itself, so 'no thread could be started' is the arm
-- Err, and one lemma by its two cases (started) says what both give. serve is three functions: serve takes the
-- memory for Closes, serve_reserved the room and the turn, serve_turn does the rest over a turn that has begun,
-- by one lemma over plain variables (all_served, Ending). All seven clauses go down as one record (ServesLinks),
-- so each early return is one term, and what stays of the listener is a function of its own (serve_lent). The
-- listener goes in and comes out as a value (Held, behind the private trait Door), since a &mut that a scope's
-- closure captures is not known afterwards.

pub mod Places
pub mod Crosses
pub mod Limits
pub mod Together
pub mod Joins
pub mod Accepting
pub mod Refusing
pub mod Ending
