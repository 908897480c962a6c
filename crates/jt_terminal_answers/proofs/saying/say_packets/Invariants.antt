use Rattle.std.proofs.Common.{◌≡◌, ◌++◌, map, take}
use Rattle.jt_terminal_rule.specs.Messages.{BeginsWith}
use Rattle.jt_terminal_answers.proofs.InPackets.{framed}
use Rattle.jt_terminal_answers.proofs.saying.say_packets.Given as goal

abbrev pub invariant-loop-packet : goal.invariant-loop-packet
invariant-loop-packet l = l.out ≡ l.fn.out ++ map framed (take l.packet-index l.packets)
