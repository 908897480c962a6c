use Rattle.std.proofs.Common.{append_assoc}
use Rattle.std.proofs.lemmas.List.{append-nil}
use Rattle.jt_text.specs.PositionFields.{item_text}
use Rattle.jt_text.proofs.fields.position.push_region_alarm.Goals as goal

pub returns-clause-text : goal.returns-clause-text
unfolding item_text
returns-clause-text c = rw (c.in_ok-push_to.ensures.text, c.put_named_number-3.ensures.text, c.put_named_number-2.ensures.text, c.put_named_number.ensures.text, c.clear.ensures) (simp (append_assoc, append-nil))
