-- How the proofs lie, for who changes them.
--
-- Lines: the newest line, read and written, and one world behind another (behind_both). Owning: lists of steps that are all the
-- terminal's own. Events: what an event does, whole and cut short, and a start.
-- Upkeep: behind a message a line stays in use, unless it is given up there. Octet: one octet, whole (whole_leads) and cut short (cut_either), as
-- jt_order_play's Reading has it of the parts that run, here of any world in which the terminal stands. Octets: any number of them, by induction.
-- Feeds: what the clauses of feed then say. Calling: the same where vault and log are seen by what they tell, for the calls of src/calls.
-- Keeping: it stands behind steps of the platform.
pub mod Lines
pub mod Owning
pub mod Events
pub mod Upkeep
pub mod Octet
pub mod Octets
pub mod Feeds
pub mod Keeping
pub mod Calling
