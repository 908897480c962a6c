use Rattle.std.proofs.Common.{◌≡◌, ◌++◌, string_bytes, take}
use Rattle.std.specs.List.{flat_map}
use Rattle.jt_gateway_command.specs.Texts.{named_line}
use Rattle.jt_gateway_command.proofs.texts.push_named_lines.Given as goal

abbrev pub invariant-loop-entry : goal.invariant-loop-entry
invariant-loop-entry l = string_bytes l.text ≡ string_bytes l.fn.text ++ flat_map (named_line l.name) (take l.entry-index l.entries)
