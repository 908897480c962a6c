use Rattle.std.proofs.Common.{arith}
use Rattle.jt_subpacket.proofs.Packets.{parts_of}
use Rattle.jt_subpacket.proofs.splitting.split.Goals as goal

pub returns-clause-parts : goal.returns-clause-parts
returns-clause-parts c =
    let total = c.div_ceil-total.ensures in
    parts_of c.args.header.now c.args.body.now c.div_ceil-total.result c.in_ok-in_packets.field-0 (omega arith) (omega arith) (omega arith) c.in_ok-in_packets.ensures
