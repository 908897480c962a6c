-- How the proofs lie, for who changes them.
--
-- A fleet is applied in two passes, each in the order of digits: what is not allowed goes, and then vehicles are registered. Of both
-- passes one invariant says what stands up to the last digits that were looked at (Sweeps in specs). Sweeping has, for any table that
-- is gone through in order, what the next phone that is found says of each digits: it is that phone, or nothing changes for it, or it
-- is passed over and has nothing there.

pub mod Binding
pub mod Calls
pub mod Pages
pub mod Removing
pub mod RowPaging
pub mod Sweeping
