use Rattle.std.proofs.Common.{append_assoc}
use Rattle.std.proofs.lemmas.List.{append-nil}
use Rattle.jt_text.specs.Frames.{view_line}
use Rattle.jt_text.specs.Names.{id_name}
use Rattle.jt_text.proofs.views.push_control_line.Goals as goal

pub returns-clause-text : goal.returns-clause-text
unfolding view_line id_name
returns-clause-text c = rw (c.in_ok-push_str.ensures.bytes, c.in_ok-push_control.ensures.text, c.in_ok-push_behind_front.ensures.text, c.clear.ensures) (simp (append_assoc, append-nil))
