-- How the proofs lie, for who changes them.
--
-- Definitions go down the list to the first record of the key (kept_of, updated, without), the code finds its
-- place by position, and one record says what each of them is at that place (At, Places). A map in a record with
-- a model is from_entries in its view, and facts of the entries go over along view_is (at_pieces, Maps). How
-- many numbers are there and how many are missing add up to the total (Missing): 'all are there' is a comparison
-- of two numbers. A law over what any packets leave: what is kept while a number is missing (Holds), what a
-- packet is told and leaves in both cases (Steps), and an induction over the packets (Joining).

pub mod Packets
pub mod Maps
pub mod Missing
pub mod Fates
pub mod Places
pub mod Kept
pub mod Joining
pub mod RoundTrip
pub mod Limits
