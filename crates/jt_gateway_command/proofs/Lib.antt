-- How the proofs lie, for who changes them.
--
-- The text of a script is a function of its lines (specs/Script), which the hearer meets line by line: what an event does is said once,
-- for whatever follows it (Events), and `hear` makes of it what jt_input wants (Heard). That fixes were passed on comes from
-- `law_gateway`, since the hearer stays a gateway to which lines alone led (Runs).

mod Events
mod Heard
mod Runs
