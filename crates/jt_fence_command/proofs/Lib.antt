-- How the proofs lie, for who changes them.
--
-- The text of a track is a function of its lines (specs/Tally), which the hearer meets line by line (Hearing).
-- That this text is the one by the alarms of the definition (`TellsAlarms`, specs/Track) is one induction over
-- the lines (Telling): a tally stands for all that came before. It needs that a change which the function takes
-- is applied (`takes` of jt_regions, the way back from `change_says`).
--
-- Open: in `hear` the drop of a change has five cases, which its answer names by the prover's own names.

pub mod Reading
pub mod Words
pub mod Hearing
pub mod Telling
pub mod Runs
