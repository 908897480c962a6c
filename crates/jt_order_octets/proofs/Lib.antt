-- How the proofs lie, for who changes them.
--
-- As jt_octets follows the world of messages of jt_delivery, this follows the one of jt_obeying: Follows has a world of
-- messages that stands, and for each line what its octets are as messages (Direction of jt_octets, which does not look
-- at what a message stands for). Each step of octets is one event of messages, or none. What a session writes itself is
-- no order, and an order's frame is known by its id (WritesNoOrder, FramesAreSeen of jt_order_turns). The serials,
-- editions and phones of messages come in by one fact alone: all that the terminal writes on a line has the phone that
-- it had when it opened the line (Written), so the first frame that the session reads has it too, and with it the
-- edition of each order on the line in use.

pub mod Written
pub mod Meanings
pub mod Following
pub mod Lining
pub mod Doing
pub mod Turning
pub mod Telling
pub mod Taking
pub mod Offering
pub mod Results
pub mod Hearing
pub mod Kept
