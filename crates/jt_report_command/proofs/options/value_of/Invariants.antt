use Rattle.std.proofs.Common.{length, ◌-◌, ◌≤◌, drop, map, string_bytes, option_to_list, option_copied}
use Rattle.jt_report_command.specs.Finding.{HasPassed}
use Rattle.jt_report_command.proofs.options.value_of.Given as goal

abbrev pub invariant-loop-from : goal.invariant-loop-from
invariant-loop-from l =
    (l.from ≤ length l.words)
    × HasPassed l.name (map string_bytes l.words) (map string_bytes (drop l.from l.words)) (option_to_list (option_copied l.found))

abbrev pub decreases-loop-from : goal.decreases-loop-from
decreases-loop-from l = length l.words - l.from
