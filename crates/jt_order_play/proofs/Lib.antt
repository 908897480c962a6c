-- How the proofs lie, for who changes them.
--
-- Offering: a session that offers takes the step Offers, or none. Telling: what a book is told of one octet. Taking: an octet up, as the steps Up and
-- Offers; its part without orders is jt_play's (Upward, Lines), over the base of the world. Owning: that octet as it is played, in a world that is
-- reached. Upward: octets up one after another. Shutting: all ends at the platform are gone, and a new hub begins.
--
-- Doing, Acting: an event that opens no line, over what jt_play's Acting says of the base. Beginning: a new line. Restarting, Starting: the terminal
-- starts anew, and where nothing has happened. Scenes: what stays true of a world that a script plays.
--
-- Naming, Answering: what the wrapped terminal says by itself names no order, at an event and at a message that is no order. Hearing: what is done at
-- what an octet down completes. Reading: the octet as steps, by all ways out of the call; that no order was refused, and that the tables are those
-- of the log, comes from the law of the world that the step leads to. Passing: octets down, so many or until none is left.
pub mod Offering
pub mod Telling
pub mod Taking
pub mod Standing
pub mod Composing
pub mod Cutting
pub mod Naming
pub mod Doing
pub mod Acting
pub mod Beginning
pub mod Restarting
pub mod Starting
pub mod Scenes
pub mod Owning
pub mod Upward
pub mod Shutting
pub mod Answering
pub mod Hearing
pub mod Reading
pub mod Passing
