-- How the proofs lie, for who changes them.
--
-- A map by octets (ByPhone, Names): the model is the list of the map's entries, each clause one equation by key,
-- under new q ≡ (if bytes_eq key q then .. else under old q); two lemmas in Pairs lead there from std's
-- UpdatesBy. An index that may keep what is gone (Registry): its invariant says only that each registration is
-- found by its names. A name that nobody has is harmless, so each of three insertions may fail by itself, and a
-- look-up tests what it found. A key that compares faster (Digits): the struct holds numbers, its model is the
-- list of octets and its order std's on lists; one lemma says that both orders agree (Numbers). migrate may stop
-- at the first phone that is too long, and its contract speaks of all new phones. So Joining shows that there
-- always is a verdict, and that rows can always be taken in; what is left is then moved in the proof alone
-- (others_there of Migrations). The map of places is gone once the loop has its iterator, so the invariant says
-- 'there are entries' and carries their facts. The verdict of rows 0 and 40,000, taken as units, would be 0 and
-- 105,536: that rows of one edition alone stay as they are is a case of its own.
--
-- Open: IsWhole compares counts and fixes in total alone; that each unit counts the fixes of its own body
-- follows at form, and a field units would say it. one of law_serials (jt_value) has a mark that is a number, so
-- it leaves out the time before anything is accepted. rise of law_verdicts speaks of units behind a last number.
-- No law says that what migrate answers is the only list that Migrated allows. rt plant was not run here: ten
-- must-fail edits stood for it.

pub mod Joining
pub mod Migrations
pub mod Nearness
pub mod Numbers
pub mod Pairs
pub mod Placing
pub mod Registering
pub mod Rising
pub mod Stocks
