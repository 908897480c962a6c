use Rattle.jt_gateway.proofs.Relaying.{each_relay}
use Rattle.jt_gateway.proofs.laws.law_relay.Goals as goal

pub returns : goal.returns
returns c = each_relay c.law_relays.ensures c.law_gateway.ensures.passes
