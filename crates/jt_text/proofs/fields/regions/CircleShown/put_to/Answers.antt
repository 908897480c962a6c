use Rattle.std.proofs.Common.{append_assoc}
use Rattle.jt_text.specs.RegionFields.{circle_text}
use Rattle.jt_text.proofs.fields.regions.CircleShown.put_to.Goals as goal

pub returns-clause-text : goal.returns-clause-text
unfolding circle_text
returns-clause-text c = rw (c.put_start.ensures.text, c.put_pair.ensures.text, c.put_named_number.ensures.text, c.put_times_and_limit.ensures.text) (simp append_assoc)
