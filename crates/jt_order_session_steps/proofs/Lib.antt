-- How the proofs lie, for who changes them.
--
-- All is told of worlds: no state of a session between two octets is made up. Leading: steps whose events can be read off. Standing: the world
-- behind a call, and that a session stands in it. Beginning: that one stands on a line that was just opened. Keeping: that one stands
-- behind steps of others too.
-- Offering: an offer as the step Offers, or none. Lists: lists by their last element. Telling: a book that is told of turns, newest first, and what
-- it held before the newest. Octet: one octet as a step Up. Walking: octets that a line takes, one after another, as steps Up, by induction over their number; turns are newest
-- first, so the last octet brings the newest turn, or none. Feeding: the whole call, up to the octet that completes the item which ended the
-- session. Closing: the step Cut.
pub mod Leading
pub mod Standing
pub mod Beginning
pub mod Keeping
pub mod Offering
pub mod Lists
pub mod Telling
pub mod Octet
pub mod Walking
pub mod Feeding
pub mod Closing
