use Rattle.std.proofs.Common.{drop, arith}
use Rattle.jt_text.proofs.Lines.{none_written, one_written}
use Rattle.jt_text.proofs.line.write_octets.Goals as goal

pub loop-left-init : goal.loop-left-init
loop-left-init c = record { within = omega arith; start = omega arith; written = none_written c.args.text.now (drop c.args.end c.args.room.now) }

pub loop-left-preserved : goal.loop-left-preserved
loop-left-preserved c = record {
  within = omega arith;
  start = omega arith;
  written = one_written c.args.text.now c.loop-left.room (drop c.args.end c.args.room.now) c.loop-left.at c.loop-left.left (omega arith) (omega arith) c.loop-left-test.true c.loop-left.invariant.within c.loop-left.invariant.written;
}
