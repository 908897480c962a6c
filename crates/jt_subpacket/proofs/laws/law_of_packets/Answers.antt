use Rattle.jt_subpacket.proofs.Joining.{joined_once, named}
use Rattle.jt_subpacket.proofs.RoundTrip.{joined_again}
use Rattle.jt_subpacket.proofs.laws.law_of_packets.Goals as goal

pub returns-clause-joined : goal.returns-clause-joined
returns-clause-joined c = joined_once

pub returns-clause-named : goal.returns-clause-named
returns-clause-named c = named

pub returns-clause-split : goal.returns-clause-split
returns-clause-split c = joined_again
