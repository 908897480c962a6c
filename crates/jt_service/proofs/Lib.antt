-- How the proofs lie, for who changes them.
--
-- That a worker may go to a thread is shown in Crosses, as in jt_server. Waiting has what a link gives behind quiet reads. The turn is a
-- ghost member that serve_on picks, so that the root's and the arrivals' types name it.

pub mod Crosses
pub mod Waiting
