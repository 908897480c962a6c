use Rattle.std.proofs.Common.{◌<◌, ◌^◌, List, ℕ, length, subst, sym}
use Rattle.jt_terminal_rule.proofs.Measuring.{get_at}
use Rattle.jt_terminal_answers.proofs.saying.say_packets.Goals as goal

pub frame-requires-clause-header : goal.frame-requires-clause-header
frame-requires-clause-header c =
    (c.requires c.loop-packet.packet-index c.packet-item.result (get_at c.args.packets.now c.loop-packet.packet-index c.packet-item.result c.loop-packet-test.true c.packet-item.is)).0

pub frame-requires-clause-body : goal.frame-requires-clause-body
frame-requires-clause-body c = subst (λ (octets : List ℕ). length octets < 2 ^ 10) (sym c.as_slice.ensures)
    (c.requires c.loop-packet.packet-index c.packet-item.result (get_at c.args.packets.now c.loop-packet.packet-index c.packet-item.result c.loop-packet-test.true c.packet-item.is)).1
