use Rattle.std.proofs.Common.{◌≡◌, ◌+◌, ◌-◌, [], ◌∷◌, ◌++◌, drop, set, slice_index, arith}
use Rattle.hex.specs.Hex.{encode_lower}
use Rattle.jt_text.proofs.Lines.{no_digits, one_more, octet_in_front}
use Rattle.jt_text.proofs.line.write_pairs.Goals as goal

pub loop-left-init : goal.loop-left-init
loop-left-init c = record { within = omega arith; start = omega arith; written = no_digits c.args.octets.now (drop c.args.end c.args.room.now) }

pub loop-left-preserved : goal.loop-left-preserved
loop-left-preserved c =
    let at = c.loop-left.at in
    let octet = slice_index c.args.octets.now (c.loop-left.left - 1) in
    let put : drop (at - 2) (set (set c.loop-left.room (at - 2) c.digits-high.result.0) (at - 2 + 1) c.digits-high.result.1) ≡ encode_lower (octet ∷ []) ++ drop at c.loop-left.room =
    rw (c.digits-high.ensures.0, c.digits-high.ensures.1) (octet_in_front c.loop-left.room at octet (omega arith) (omega arith)) in
    record {
      within = omega arith;
      start = omega arith;
      written = one_more c.args.octets.now (drop c.args.end c.args.room.now) (drop at c.loop-left.room) _ c.loop-left.left c.loop-left-test.true c.loop-left.invariant.within c.loop-left.invariant.written put;
    }
