use Rattle.jt_session.proofs.Hubs.{feeds_beyond}
use Rattle.jt_session.proofs.Joining.{feeds_joined}
use Rattle.jt_session.proofs.laws.law_of_feeds.Goals as goal

pub returns : goal.returns
returns c = record { both = feeds_joined; behind = feeds_beyond c.law_front.ensures.unplaced }
