use Rattle.std.proofs.Common.{append_assoc}
use Rattle.jt_text.specs.Frames.{header_fields}
use Rattle.jt_text.proofs.frame.put_header_fields.Goals as goal

pub returns-clause-text : goal.returns-clause-text
unfolding header_fields
returns-clause-text c = rw (c.put_phone.ensures.text, c.put_named_number.ensures.text, c.put_header_end.ensures.text) (simp append_assoc)
