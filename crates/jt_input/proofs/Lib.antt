-- How the proofs lie, for who changes them.
--
-- A run for any teller: the trait has an associated type Asked, spoken of in contracts alone, and a relation
-- stands of a state, what was asked, a front and the printed text. Clauses range over all four, so the runner
-- needs no function of the state. 'The input is open behind this front' is 'some teller stands for it'
-- (SomeStands); the crate above says it in its own words by one lemma (Opened). That what was printed is the
-- front of all that will be is part of what take says of a piece. A hearer is told forwards: outcome hearer
-- number (line ∷ more) by outcome of the hearer after it. Only 'a line beyond the limits is bad' is a law of the
-- trait, since no call is made for it. Lines that are pulled: one record of what was told (HasTold), one lemma
-- for a cut and one for a read, and the loop's invariant is a function over every text that the reader stood for
-- (ReadsOn).

pub mod Lacking
pub mod Lines
pub mod Cutting
pub mod Numbers
pub mod Fronts
mod Reading
pub mod Steps
pub mod Runs
pub mod LinesHeard
pub mod Opened
