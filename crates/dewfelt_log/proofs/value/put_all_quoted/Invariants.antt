use Rattle.std.proofs.Common.{◌≡◌, ◌++◌, take}
use Rattle.std.specs.List.{flat_map}
use Rattle.dewfelt_log.specs.Logfmt.{escaped}
use Rattle.dewfelt_log.proofs.value.put_all_quoted.Given as goal

abbrev pub invariant-loop-octet : goal.invariant-loop-octet
invariant-loop-octet l = l.line.items ≡ l.initial.line.items ++ flat_map escaped (take l.octet-index l.value)
