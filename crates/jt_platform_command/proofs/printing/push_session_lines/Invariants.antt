use Rattle.std.proofs.Common.{◌≡◌, ◌++◌, string_bytes, take}
use Rattle.std.specs.List.{flat_map}
use Rattle.jt_platform_command.specs.Platform.{session_line}
use Rattle.jt_platform_command.proofs.printing.push_session_lines.Given as goal

abbrev pub invariant-loop-report : goal.invariant-loop-report
invariant-loop-report l = string_bytes l.text ≡ string_bytes l.fn.text ++ flat_map session_line (take l.report-index l.reports)
