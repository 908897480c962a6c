use Rattle.std.proofs.Common.{[]}
use Rattle.std.proofs.lemmas.List.Elements.{All-nil}
use Rattle.jt_escape.specs.Span.{IsContent}
use Rattle.jt_session.proofs.Onward.{turns_go_on}
use Rattle.jt_session.proofs.laws.law_of_turns.Goals as goal

pub returns : goal.returns
returns c = turns_go_on c.law_front.ensures.unplaced (c.law_frames.ensures.frames [] (All-nil IsContent))
