use Rattle.std.proofs.Common.{◌≡◌, ◌++◌, take, codes}
use Rattle.std.specs.Prelude.{string_bytes}
use Rattle.std.specs.List.{flat_map}
use Rattle.dewfelt_log.specs.Logfmt.{two_hex}
use Rattle.dewfelt_log.proofs.gbk.digits.Given as goal

abbrev pub invariant-loop-octet : goal.invariant-loop-octet
invariant-loop-octet l = string_bytes l.text ≡ codes "0x" ++ flat_map two_hex (take l.octet-index l.octets)
