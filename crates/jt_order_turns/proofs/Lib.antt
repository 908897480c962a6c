-- How the proofs lie, for who changes them.
--
-- Everything is computed from jt_session's Talk, the table of bodies and the terminal's table of answers, by cases:
-- a change of asks, turn_at_reply, turn_without_request or answer_to touches it. What is read back of a general
-- response comes from law_of_bodies and law_of_acks, that both editions leave the same tables from law_performing.

pub mod Turning
pub mod Framing
