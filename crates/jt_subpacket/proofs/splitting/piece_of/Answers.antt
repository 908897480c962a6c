use Rattle.jt_subpacket.proofs.Packets.{short_take}
use Rattle.jt_subpacket.proofs.splitting.piece_of.Goals as goal

pub returns : goal.returns
returns c = short_take c.args.body.now _ _ c.min-end.ensures
