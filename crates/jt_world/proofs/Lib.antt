-- How the proofs lie, for who changes them.
--
-- The hearer's value is jt_play's scene, which has the present edition beside the play; the definitions of a script
-- have the play alone. So what lines leave is the scene of their play (scene_at), whose edition is the terminal's:
-- Editions shows it of each world that a script led to. What a line does is said once, for whatever follows it
-- (Does): `hear` makes of it what jt_input wants (Heard), and the script that is made goes from line to line by it
-- (Made), where a relation stands of the world, the lines to come and the whole rehearsal (Stands).

mod Editions
pub mod Heard
mod Rehearsals
mod Made
mod Lasts
mod Complete
