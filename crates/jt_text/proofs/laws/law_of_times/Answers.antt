use Rattle.jt_position.proofs.MomentLaws.{names}
use Rattle.jt_text.proofs.laws.law_of_times.Goals as goal

pub returns : goal.returns
returns c = names
