-- How the proofs lie, for who changes them.
--
-- It stands on the types and the history of jt_platform, on rows of jt_store, fixes of jt_position,
-- registrations of jt_register, serials and phones of jt_value. A change of Allowed, of live, closed, holder and
-- takes, or of the serial verdict touches it; a change of code does not. Units are named by their place, never
-- by number: order is < of places, and a number comes in through number_at alone. Lists of messages stand
-- towards the reader: gone newest first, waiting oldest first, so taking a message moves it by computation; only
-- a message written at the end wants an induction for each predicate (Lists). The event carries what the world
-- may choose, so after is a function and no event is searched for. Lines are numbered from 1, as the hub's
-- sessions. What is only known beside the world is fields that no event looks at. One lemma serves all that a
-- session does (turned_kept, Turning); a message that stores nothing and takes nothing is a second one over it
-- (plain_kept). The keeper after an entry is shelf_of key keeper (e ∷ []). A field that goes by a test of a
-- reply is stuck on a reply that is a variable: row_line_after goes by the message first.
--
-- Open: no run with two lines at a time, a restart of the platform or a number past 65,535 is shown. Definitions
-- alone refuse no wrong code: docs/PROVING.md has the rules that a random tester of this world broke.

pub mod Lists
pub mod Forming
pub mod Sending
pub mod Hearing
pub mod Turning
pub mod Storing
pub mod Answering
pub mod Kept
pub mod Parts
pub mod Happening
