use Rattle.std.proofs.Common.{◌+◌, ◌∙◌, length, arith}
use Rattle.jt_platform_command.proofs.Hearing.{goes_on, ends_bad, ends_beyond, ends_last, ends_last_bad, ends_here, ends_failed, ends_memory, ends_last_memory, good_is, bad_is}
use Rattle.jt_input.proofs.Fronts.{few_lines}
use Rattle.jt_platform_command.proofs.fleet_reader.read_fleet.Goals as goal

pub overflow_add-number : goal.overflow_add-number
overflow_add-number g c =
    let h = c.loop-naming.invariant.0 in
    let few = few_lines (length h.lines + 1) c.next.new.self.held.line (c.in-Line.ensures.goes h.text h.lines h.told).tells.1 in omega (arith, few, h.count)

pub overflow_add-number-in-Ok-true-hear : goal.overflow_add-number-in-Ok-true-hear
overflow_add-number-in-Ok-true-hear g c =
    let h = c.loop-naming.invariant.0 in
    let few = few_lines (length h.lines + 1) c.next.new.self.held.line (c.in-Last.ensures.goes h.text h.lines h.told).tells.1 in omega (arith, few, h.count)

pub loop-naming-smaller : goal.loop-naming-smaller
loop-naming-smaller g c =
    let h = c.loop-naming.invariant.0 in
    let few = few_lines (length h.lines + 1) c.next.new.self.held.line (c.in-Line.ensures.goes h.text h.lines h.told).tells.1 in omega (arith, few, h.count)

pub loop-naming-preserved : goal.loop-naming-preserved
loop-naming-preserved g c =
    let h = c.loop-naming.invariant.0 in
    let said = good_is c.in-Ok-true.field-0 c.loop-naming.naming c.hear.new.self _ _ c.in-Ok-true.field-0-test c.line.ensures c.in-Ok-true.ensures in
    (goes_on _ _ _ _ _ _ _ _ h (c.in-Line.ensures.goes h.text h.lines h.told) said, c.in-Line.ensures.still (λ e. cc) ∙ c.loop-naming.invariant.1)

pub returns-in-Ok-false-clause-reads : goal.returns-in-Ok-false-clause-reads
returns-in-Ok-false-clause-reads g c =
    let h = c.loop-naming.invariant.0 in
    let said = bad_is c.in-Ok-false.field-0 c.loop-naming.naming c.hear.new.self _ _ c.in-Ok-false.field-0-test c.line.ensures c.in-Ok-false.ensures in
    ends_bad c.law_lines.ensures.front _ _ _ _ _ _ _ h (c.in-Line.ensures.goes h.text h.lines h.told) said

pub returns-in-Err-clause-reads : goal.returns-in-Err-clause-reads
returns-in-Err-clause-reads g c =
    let h = c.loop-naming.invariant.0 in ends_memory _ _ _ _ _ _ _ h (c.in-Line.ensures.goes h.text h.lines h.told)

pub returns-in-Ok-true-hear-clause-reads : goal.returns-in-Ok-true-hear-clause-reads
returns-in-Ok-true-hear-clause-reads g c =
    let h = c.loop-naming.invariant.0 in
    let said = good_is c.in-Ok-true-hear.field-0 c.loop-naming.naming c.hear-in-Last.new.self _ _ c.in-Ok-true-hear.field-0-test c.line-in-Last.ensures c.in-Ok-true-hear.ensures in
    ends_last c.end.result _ _ _ _ _ _ _ _ h (c.in-Last.ensures.goes h.text h.lines h.told) said c.end.ensures

pub returns-in-Ok-false-hear-clause-reads : goal.returns-in-Ok-false-hear-clause-reads
returns-in-Ok-false-hear-clause-reads g c =
    let h = c.loop-naming.invariant.0 in
    let said = bad_is c.in-Ok-false-hear.field-0 c.loop-naming.naming c.hear-in-Last.new.self _ _ c.in-Ok-false-hear.field-0-test c.line-in-Last.ensures c.in-Ok-false-hear.ensures in
    ends_last_bad _ _ _ _ _ _ _ h (c.in-Last.ensures.goes h.text h.lines h.told) said

pub returns-in-Err-hear-clause-reads : goal.returns-in-Err-hear-clause-reads
returns-in-Err-hear-clause-reads g c =
    let h = c.loop-naming.invariant.0 in ends_last_memory _ _ _ _ _ _ _ h (c.in-Last.ensures.goes h.text h.lines h.told)

pub returns-in-End-clause-reads : goal.returns-in-End-clause-reads
returns-in-End-clause-reads g c =
    let h = c.loop-naming.invariant.0 in ends_here c.end-in-End.result _ _ _ _ _ _ _ h (c.in-End.ensures.goes h.text h.lines h.told) c.end-in-End.ensures

pub returns-in-Bad-clause-reads : goal.returns-in-Bad-clause-reads
returns-in-Bad-clause-reads g c =
    let h = c.loop-naming.invariant.0 in ends_beyond _ _ _ _ c.in-Bad.number _ _ _ h (c.in-Bad.ensures.goes h.text h.lines h.told)

pub returns-in-Failed-clause-reads : goal.returns-in-Failed-clause-reads
returns-in-Failed-clause-reads g c =
    let h = c.loop-naming.invariant.0 in ends_failed _ _ _ _ _ _ _ h (c.in-Failed.ensures.goes h.text h.lines h.told)
