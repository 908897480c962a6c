use Rattle.jt_order_turns.proofs.Framing.{frames_are_seen, responses_name}
use Rattle.jt_order_turns.proofs.laws.law_frames.Goals as goal

pub returns : goal.returns
returns c = record { seen = frames_are_seen c.law_performing.ensures.editions; responses = responses_name }
