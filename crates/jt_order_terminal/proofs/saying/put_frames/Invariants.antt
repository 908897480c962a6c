use Rattle.std.proofs.Common.{◌≡◌, ◌++◌}
use Rattle.jt_order_terminal.proofs.saying.put_frames.Given as goal

abbrev pub invariant-loop-frame : goal.invariant-loop-frame
invariant-loop-frame l = l.out.items ++ l.frame-iterator.rest.items ≡ l.fn.out.items ++ l.fn.frames
