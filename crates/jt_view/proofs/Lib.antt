-- How the proofs lie, for who changes them.
--
-- A report that goes on has three facts (specs/Taking): what was taken, what was printed of it, and that nothing
-- settled it yet. A step either goes on, with the text added, or gives the rest of the answer for whatever may
-- follow. run's clause then follows by Consumes-trans and Appends-trans of std. Octets from digits that come in
-- pieces: one law, octets_of (a ++ b) = octets_of a ++ octets_of (waiting digit of a ++ b). std's
-- prefix_len-append, take-append-add and filter-append give the place of the first wrong octet over ++.

pub mod Closings
pub mod Counting
pub mod EntriesTold
pub mod HexDigits
pub mod HexSoFar
pub mod InputTaken
pub mod PiecesTaken
pub mod PrintedFirst
pub mod Told
