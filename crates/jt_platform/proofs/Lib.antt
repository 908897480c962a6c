-- How the proofs lie, for who changes them.
--
-- A log is a history with its tables (src/log.rt): its model shows the entries, its invariant (IsIndex,
-- specs/Index) says that the tables tell what the definitions say of them, and is_closed, is_live and holder have
-- the same clauses as the scans of src/history.rt. So nothing above Log knows of tables. The scans stay public;
-- the tests compare each reply with them. A map (src/lookup.rt): std's BTreeMap refuses an insertion for want of
-- memory only where the key is new. So a place is made for a key before the keeper is asked, and set afterwards
-- with no memory and no get_mut, or let go where it tells nothing (Keeps). Look-ups are said by std's own words,
-- lookup (is_at (K.cmp q)), for any K: Ord; only Index turns the comparisons into == and same_key (Places). Of a
-- closed session the tables may say anything, and keep one bit (src/flags.rt, Marking): live is asked only where
-- closed is false. Where the entries go is a Journal's (src/journal.rt); GhostJournal has them in the ghost list
-- of http_server's Log, since a list of our own would want two bodies proved by hand. What an entry does to the
-- tables is one record (Notes) in the words of the definitions, so the log's invariant over one more entry proves
-- with no file. The fleet is two sets of names (src/roll.rt), whose value in contracts is the fleet as it was
-- handed in: a Snapshot. One induction turns std's clause for an insertion (insert_key) into 'has this name'. Each
-- part that calls the keeper has one clause done, by cases on the reply (UnitDone, RegisterDone), one for the
-- limit and one record of reasons (HasReason). By hand are the entry in act (at_acted), the room for Closes, that
-- a live session has a holder, and the unit that is numbered anew (anew_done). The reply as a function (answer,
-- specs/Answer): no function can search all phones, so the two tests of a registration are arguments, tied to what
-- they test by ↔. The law goes by cases on the reply. A verdict is one alone: Verdicts, over the law of serials.
-- Room that is owed (HasRoom): the model shows a number, the struct keeps a count from above. An entry is copied
-- before it is known: request and code first, the reply from the copy, with IsCoded as the requires.
--
-- Open: that answer itself is allowed is not stated. A place that was made for an authentication for whose entry
-- there was no memory stays until such an authentication comes again. That the tables keep no place that tells
-- nothing is not stated. A keeper handed in with more rows of a phone than its limit has no allowed reply to a new
-- unit, and the law stored then says nothing; < in place of ≢ in its premise would say so. Gives of the desk
-- leaves out that a keeper that cannot fail gives no StoreFault; act says it. rt plant was not run on the crate
-- with its tables.

pub mod Asking
pub mod Closing
pub mod Places
pub mod Rolls
pub mod Verdicts
pub mod Answering
pub mod Alone
pub mod Making
pub mod Marking
pub mod Indexing
pub mod Storing
pub mod Acting
pub mod Holding
pub mod Zeros
pub mod Rooms
pub mod Telling
