-- answered says that its answer is not Full, and a lemma says the rest: a quantifier over definitions would make
-- a clause of Type 1. The relation of Reads is not found from _: write it, and let the lemma take it last.

mod Testing
pub mod Untelling
