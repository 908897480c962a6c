-- How the proofs lie, for who changes them.
--
-- No world is opened: what both claim comes from `law_world`, as each stays a world of octets that is reached (a pump is some of b's own
-- steps). One invariant stands beside that: what b recorded is a prefix of the fixes that a stored. It wants what a step leaves of rows
-- and of recorded fixes (Leaving), and what prefixes are (Prefixes).

pub mod Prefixes
pub mod Leaving
pub mod Passing
mod Playing
mod Gateways
mod Editions
mod Pumping
mod Acting
mod Relaying
