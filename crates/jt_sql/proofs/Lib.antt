-- How the proofs lie, for who changes them.
--
-- What was chosen stands in docs/DECISIONS.md, 'Stores in files', what was measured in docs/MEASURES.md.
-- Crosses has a lemma for each type between SqlKeeper and the file, and each caller of run over it (main) one
-- answer of one line. For the next large type: from the inside out, each search (sendable, crosses) depth 60
-- fits 100000 under lets of the lemmas of its fields; over Items, Option and Vec of a type that instance as a
-- let too; generic parts over any row with IsSend, then at the file. Two or three calls of the database a
-- function, with no clause: a proof that carries ten takes minutes. A check of the source alone takes the lower
-- crates along, fifteen minutes of one processor; with --only F one. Tests of stops want a small cache
-- (cache_pages: 16).

pub mod Crosses
