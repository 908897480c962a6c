use Rattle.jt_escape.proofs.Frames.{first_frame}
use Rattle.jt_escape.proofs.laws.law_first_frame.Goals as goal

pub returns : goal.returns
returns c = first_frame
