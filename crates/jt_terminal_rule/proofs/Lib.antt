-- How the proofs lie, for who changes them.
--
-- The state is the struct itself. State, Wait, Event and Acknowledgement of the rule are those declared in src,
-- so a definition's record s { .. } is field by field what the code assigns, and most functions prove with no
-- file. A pub use of a declared type in specs does not reach other crates: each file imports it from
-- specs.declared. rule : State → Event → Ruled is over Event, the public type; heard is over what a line brings
-- (Heard). The table of answers is specs/Answers, the settings of parameters are a function in specs/Tables, and a
-- lemma joins it to the relation of the parameters' own crate (Tabling: maps with the same values are equal), as
-- jt_regions does for regions.
-- An answer is a record of what it leaves and what it says, so one lemma serves all answers, with no case by
-- message. law_rule says for every event that the steps are legal, where they lead, that the vault takes each
-- change, that IsInOrder and Agrees hold again, and that an event that is cut short is legal steps too;
-- law_waits how late a line is given up; law_unsaid that each frame at a message, but those of the answer, is
-- one less that may still be said. The phase has the serial that it waits for, so the machine's list of
-- authentications is a function of the phase. The wait is no option but counts where is_waiting says so. at s p,
-- the state in a phase, lets every lemma go by cases on the phase with no equation. AreSteps m held just r
-- composes over and_then by one lemma. That packets of an answer take the serials that after_packets says is one
-- induction over front (one_more, front_lists).
-- The rule is walked through once (Induction): where Bears says a thing of each step that it takes, Ran says it of
-- all steps of an event, and that the settings are left. jt_play and jt_order_play use it four times.
--
-- Open: no law says that an answer never passes 256 packets (66,303 octets is the most, by the bound of a table
-- of parameters). packets_of of jt_subpacket/specs/Steps is cited by the public clause packets and by the rule:
-- it belongs to what is to be believed. rt plant was not run here. The window as a ring: that an event costs its
-- own octets and the logarithm of what waits is by the form of the code; no test measures it.

pub mod Batches
mod Numbering
pub mod Forming
pub mod Accepting
pub mod Composing
pub mod Filling
mod Controlling
pub mod Speaking
pub mod Answering
pub mod Tabling
mod Ruling
mod Cutting
mod Telling
pub mod Starting
pub mod Measuring
pub mod Lasting
mod Unsaying
pub mod Induction
mod Keeping
mod Windows
