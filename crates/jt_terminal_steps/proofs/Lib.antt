-- How the proofs lie, for who changes them.
--
-- Five clauses a function: ok (Ran, or Went for a rule that may have nothing to do), err (CutShort), sound,
-- same, outside; they compose by Chaining. Only an error in the second of two rules and sound behind a change
-- wanted answers. sound is rw with the callee's equations and then the lemma of the change (Keeping has one for
-- each change). IsSound (specs/Running) is the invariant of Terminal's model: good settings, IsInOrder, and
-- where the vault tells, Agrees and the counts; beside it stands IsTimed, kept at the end of an event alone. So
-- no caller names them, and they hold after an error too. What an error leaves (specs/AfterError): last, params,
-- tables and lists. With the phase, the units sent and the moment that is all of the state but wait and said,
-- which nothing reads before a line is opened anew. lists_after is a fold over the rule's own steps on seven
-- fields alone (Lists): a change of any other field is convertible, and CutLists composes as CutShort does
-- (Leaving). A step that fails in the window leaves the lists as they were, so no front is needed below fill. An
-- event by value is handed on as a reference to a function that does the work, since each variant that is
-- dropped is a goal of its own.

pub mod Keeping
pub mod Chaining
pub mod Leaving
pub mod Listing
pub mod Copied
