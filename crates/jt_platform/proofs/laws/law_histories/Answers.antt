use Rattle.jt_platform.proofs.Telling.{histories_tell}
use Rattle.jt_platform.proofs.laws.law_histories.Goals as goal

pub returns : goal.returns
returns c = histories_tell
