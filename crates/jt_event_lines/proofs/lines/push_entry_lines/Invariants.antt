use Rattle.std.proofs.Common.{◌≡◌, ◌++◌, string_bytes, take}
use Rattle.std.specs.List.{flat_map}
use Rattle.jt_event_lines.specs.EntryLines.{entry_line}
use Rattle.jt_event_lines.proofs.lines.push_entry_lines.Given as goal

abbrev pub invariant-loop-entry : goal.invariant-loop-entry
invariant-loop-entry l = string_bytes l.text ≡ string_bytes l.fn.text ++ flat_map entry_line (take l.entry-index l.entries)
