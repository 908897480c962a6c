use Rattle.std.proofs.Common.{◌≡◌, drop}
use Rattle.dewfelt_log.specs.Logfmt.{all_bare}
use Rattle.dewfelt_log.proofs.value.are_bare.Given as goal

abbrev pub invariant-loop-octet : goal.invariant-loop-octet
invariant-loop-octet l = all_bare l.value ≡ all_bare (drop l.octet-index l.value)
