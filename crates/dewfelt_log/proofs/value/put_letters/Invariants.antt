use Rattle.std.proofs.Common.{◌≡◌, ◌++◌, take, map}
use Rattle.dewfelt_log.specs.Logfmt.{letter}
use Rattle.dewfelt_log.proofs.value.put_letters.Given as goal

abbrev pub invariant-loop-octet : goal.invariant-loop-octet
invariant-loop-octet l = l.line.items ≡ l.initial.line.items ++ map letter (take l.octet-index l.key)
