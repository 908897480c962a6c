-- How the proofs lie, for who changes them.
--
-- A stream is a list of spans; the splitter is a step function on a record. Two lemmas join them: scanning the
-- octets of spans gives the events of the spans, and each stream is cut into spans. The rest of the stream is an
-- argument of a span's condition. Octets in bulk are a relation of states (Runs, specs/Scan): it composes by one
-- lemma for ++. A bulk move is three facts: where plain octets lead, what the search found, and Runs. A state up
-- to what no later octet sees (lasting, AreAlike) lifts to runs by induction. What was done so far is said of
-- the state at any place (standing, gather_near). A choice without a branch (front): & and select_unpredictable
-- prove with no file against a sum of the two cases (StandsAtFront).

pub mod Checks
pub mod Cutting
pub mod Frames
pub mod Lasting
pub mod Lending
pub mod Octets
pub mod Reading
pub mod Scanning
pub mod Taking
pub mod Runs
