-- How the proofs lie, for who changes them.
--
-- feed does one item after the other (src/hearing), and HasDone (specs/Feeding) says of each call what was done of a Done (specs/Terminals), over a
-- Scene: Doing has its lemmas, one behind the other, Items those of octets that bring items, and Feeding says of both what feed does. A call that
-- fails has begun some of it. That the ledger is that of the log is kept by each call, failed or not (KeepsLedger), since the invariant asks it;
-- Committing has the lemmas of an order that is committed. Causes has those of calls that did not fail yet. A message is an owned enum of many
-- variants, and each drop of it multiplies the goals behind it: so one is dropped in hear_message and in perform_known alone, behind one call.
mod Causes
pub mod Committing
pub mod Doing
mod Feeding
mod Items
