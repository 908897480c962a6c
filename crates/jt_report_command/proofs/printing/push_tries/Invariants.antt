use Rattle.std.proofs.Common.{◌≡◌, ◌++◌, string_bytes, take}
use Rattle.jt_report_command.specs.Report.{try_lines}
use Rattle.jt_report_command.proofs.printing.push_tries.Given as goal

abbrev pub invariant-loop-i : goal.invariant-loop-i
invariant-loop-i l = string_bytes l.text ≡ string_bytes l.fn.text ++ try_lines 1 (take l.i l.ends)
