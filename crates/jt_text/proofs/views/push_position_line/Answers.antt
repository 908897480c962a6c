use Rattle.std.proofs.Common.{append_assoc}
use Rattle.std.proofs.lemmas.List.{append-nil}
use Rattle.jt_text.specs.Frames.{view_line}
use Rattle.jt_text.specs.Names.{id_name}
use Rattle.jt_text.specs.PositionFields.{position_fields}
use Rattle.jt_text.proofs.views.push_position_line.Goals as goal

pub returns-clause-text : goal.returns-clause-text
unfolding view_line id_name position_fields
returns-clause-text c = rw (c.in_ok-push_str.ensures.bytes, c.in_ok-push_item_views.ensures.text, c.in_ok-push_behind_front.ensures.text, c.put_fixed.ensures.text, c.clear.ensures) (simp (append_assoc, append-nil))
