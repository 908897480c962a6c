-- How the proofs lie, for who changes them.
--
-- An edition is an argument of the looks into a content, and the edition in the attributes is put in at the top
-- alone. By cases on the edition go only small lemmas (lead, room, packet_piece), and one large one, what stands
-- where in a content, since there the cells of the phone's field must be in view (stands, WholeContents).
-- Contents are unfoldable: as abbrev a goal opens every octet of the header.

pub mod FirstRow
pub mod Bits
pub mod NoReason
pub mod Pieces
pub mod Rows
pub mod WholeContents
