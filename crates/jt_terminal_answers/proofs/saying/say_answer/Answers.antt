use Rattle.std.proofs.Common.{◌≡◌, ◌++◌, ◌∙◌, ℕ, List, Some, map, slice_get, ap, sym, subst, arith}
use Rattle.jt_subpacket.specs.Parts.{Message as Packet}
use Rattle.jt_terminal_rule.specs.Rule.{answer_packets}
use Rattle.jt_terminal_rule.proofs.Answering.{packets_framed, packets_sent}
use Rattle.jt_terminal_answers.proofs.InPackets.{framed}
use Rattle.jt_terminal_answers.proofs.saying.say_answer.Goals as goal

pub say_packets-requires : goal.say_packets-requires
say_packets-requires c = λ place packet there.
    packets_framed c.args.state.now c.requires c.packets.ensures.serial c.args.kind c.args.body.now place packet (subst (λ (ps : List Packet). slice_get ps place ≡ Some packet) (c.as_slice.ensures ∙ c.in_ok-packets.ensures.packets) there)

pub returns-clause-out : goal.returns-clause-out
returns-clause-out c =
    c.in_ok-say_packets.ensures.out
    ∙ ap (λ (fs : List (List ℕ)). c.args.out.now ++ fs) (ap (map framed) (c.as_slice.ensures ∙ c.in_ok-packets.ensures.packets) ∙ sym (packets_sent c.args.state.now.settings (answer_packets c.args.state.now c.args.kind c.args.body.now)))
