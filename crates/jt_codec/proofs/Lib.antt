-- How the proofs lie, for who changes them.
--
-- A match over the id, and one over the edition within the arms that want it, with one row function for all
-- other ids (read_row), takes half of what a match over the pair does. A reader in place over many rows
-- (view_row) says Fills or Refuses of body edition id, with the table unfolded and using(answers_case), and each
-- arm returns whole: only the arm for all other ids wants an answer. What was planted before: 48 rows that take
-- memory refused and 64 not tried; judge_list, judge_region and judge_resend are later and were not planted in.

pub mod AckLaws
pub mod BodyLaws
pub mod FrameLaws
pub mod ResendLaws
