use Rattle.jt_session.proofs.Requests.{requests_are}
use Rattle.jt_session.proofs.laws.law_of_requests.Goals as goal

pub returns : goal.returns
returns c = requests_are c.law_of_bodies.ensures.one_to_one c.law_of_bodies.ensures.ids c.law_of_packets.ensures.named
