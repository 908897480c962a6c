-- How the proofs lie, for who changes them.
--
-- What words of an order say stands in Wording, and how the text of orders grows in Telling. The text of a script is a function of its lines
-- (specs/Script), which the hearer meets line by line: what an event does is said once, for whatever follows it (Events), and `hear` makes of
-- it what jt_input wants (Heard). `run` goes round after round until no octet moves, so as many rounds as 2^64 come to the same (Events). That
-- orders were obeyed comes from `law_order_world`, since steps lead to the world of the hearer (Runs).

mod Wording
mod Telling
mod Events
mod Heard
mod Runs
