use Rattle.std.proofs.Common.{◌≡◌, take}
use Rattle.jt_platform_command.specs.Platform.{some_end, first_limit, is_memory, is_store_fault}
use Rattle.jt_platform_command.proofs.printing.Ends.of.Given as goal

abbrev pub invariant-loop-report : goal.invariant-loop-report
invariant-loop-report l = (l.ends.memory ≡ some_end is_memory (take l.report-index l.reports))
    × (l.ends.store_fault ≡ some_end is_store_fault (take l.report-index l.reports))
    × (l.ends.limit ≡ first_limit (take l.report-index l.reports))
