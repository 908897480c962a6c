use Rattle.std.proofs.Common.{◌≡◌}
use Rattle.jt_subpacket.specs.Steps.{front}
use Rattle.jt_subpacket.proofs.splitting.in_packets.Given as goal

abbrev pub invariant-loop-place : goal.invariant-loop-place
invariant-loop-place l = l.packets.items ≡ front l.header l.total l.body l.place
