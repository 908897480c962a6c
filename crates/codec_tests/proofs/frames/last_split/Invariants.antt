use Rattle.std.proofs.Common.{◌≡◌}
use Rattle.codec_tests.proofs.frames.last_split.Given as goal

abbrev pub invariant-loop-octet : goal.invariant-loop-octet
invariant-loop-octet l = l.splitter.place ≡ l.octet-index
