use Rattle.std.proofs.Common.{◌≡◌, take}
use Rattle.jt_value.specs.Sameness.{key_of}
use Rattle.jt_platform.specs.History.{newest}
use Rattle.jt_platform.specs.History.{holder as holder_of}
use Rattle.jt_platform.proofs.history.holder.Given as goal

abbrev pub invariant-loop-i : goal.invariant-loop-i
invariant-loop-i l = l.found ≡ holder_of (key_of l.phone) (newest (take l.i l.history))
