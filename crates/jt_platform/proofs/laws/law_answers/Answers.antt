use Rattle.jt_platform.proofs.Answering.{answers_tell}
use Rattle.jt_platform.proofs.laws.law_answers.Goals as goal

pub returns : goal.returns
returns c = answers_tell c.law_serials.ensures
