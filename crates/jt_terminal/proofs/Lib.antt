-- How the proofs lie, for who changes them.
--
-- A line (TerminalLine) stands for the octets that it read: its stream stands for them, and the partial messages
-- are those that their items leave. feed does one item after the other (hear_item), each heard as of_item says
-- (specs/Line), and composes by rule_at_items; src/feeding has the loop, Items, Judging and Looping its lemmas.
-- That units, fixes and serials are those after some first steps of many items rests on lists_heard
-- (jt_terminal_steps, Listing). It asks that mark and next serial have sixteen bits, which is known where an
-- item begins, so HasFed carries that fact of all items so far. Without a line the rule passes over all that is
-- heard (Idling), so unmoved and silent need no premise on the line. What a type says of each loaded item
-- (sixteen bits of a serial, a fix) is known of no list: a loop that reads each item once, with take index in
-- its invariant, proves it (src/loading). An edit in act is refused by its own clause since the answer of sound
-- after an error goes by what stays (sound_without_line: settings, lists and parameters, each refl).

mod Begins
mod Naming
mod Ending
mod Idling
pub mod Items
mod Judging
mod Lateness
pub mod Looping
mod Staying
