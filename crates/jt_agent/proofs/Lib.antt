-- How the proofs lie, for who changes them.
--
-- What comes of a move (Comes) takes the rule and, as a predicate of the state, what is left where it was cut
-- short. tell says it of an event and hear of octets, and both are what the definition says of that move by
-- computation, so one lemma serves all moves.

pub mod Concluding
pub mod Going
pub mod Trying
