use Rattle.std.proofs.Common.{◌≡◌, ◌++◌, map, take}
use Rattle.std.specs.Prelude.{string_bytes}
use Rattle.dewfelt_asked.proofs.hosts.push_names.Given as goal

abbrev pub invariant-loop-name : goal.invariant-loop-name
invariant-loop-name l = map string_bytes l.hosts.items ≡ map string_bytes l.fn.hosts.items ++ map string_bytes (take l.name-index l.names)
