-- How the proofs lie, for who changes them.
--
-- It stands on the history and the table of replies of jt_platform, of which live, holder and takes alone are
-- computed, on the three rules of jt_order, and on facts of jt_delivery on one more entry. A change of these
-- touches it; a change of code does not. Orders are named by their place, so serials come in by serial_of alone,
-- and an order's place modulo 65536 is known once its place is one of two: that of the order performed last, or
-- the next. Stands has no alignment of answers with orders and says nothing of lines that were never opened.
-- What is short about it is one list, under_way: the orders that are unread on a line, and behind them those
-- whose answers wait. Reading moves a place from its front to its back, taking an answer empties it, an offer
-- finds it empty, and a session that begins to hold the phone was not live, so it sent nothing (LineOk.lives).
--
-- A ruling is a variable until its premise is known, and a whole record that goes by it is stuck in every field:
-- each field has its own function (log_by, tables_by, refused_by, result_by), so that the other fields compute
-- and runs prove by refl. For the same reason an if stands in Misses alone, and a run over it is put together
-- of two (leads_one, leads_both).
--
-- Open: no run with a fenced session or a serial past 65,535 is shown. Definitions
-- alone refuse no wrong code; of the rules, two may be left out and the claim still holds: that an answer counts
-- only on a line on which its order was sent, and only where its entry says Accepted. Both left out break it.

pub mod Lists
pub mod Lines
pub mod Hearing
pub mod Turning
pub mod Obeyed
pub mod OrderKinds
pub mod Performing
pub mod Happening
