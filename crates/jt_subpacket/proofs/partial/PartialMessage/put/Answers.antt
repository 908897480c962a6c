use Rattle.std.proofs.Common.{rules}
use Rattle.jt_subpacket.proofs.Maps.{put_is}
use Rattle.jt_subpacket.proofs.partial.PartialMessage.put.Goals as goal

pub returns-clause-ok : goal.returns-clause-ok
returns-clause-ok c =
    put_is c.self.inside.key c.self.inside.pieces.entries c.insert.new.self.entries c.args.number c.args.body.now c.from_vec-octets.result c.args.self.now c.has.result
    (search rules) c.self.view_is c.has.ensures c.if-has.false c.in_ok-insert.ensures.updates.0
