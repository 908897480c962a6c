use Rattle.jt_escape.proofs.Frames.{frames_are}
use Rattle.jt_escape.proofs.laws.law_frames.Goals as goal

pub returns : goal.returns
returns c = frames_are
