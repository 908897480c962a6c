use Rattle.std.proofs.Common.{◌+◌, ◌∙◌, length, Ok, Err, arith}
use Rattle.jt_report_command.specs.Noting.{noting}
use Rattle.jt_report_command.proofs.Recording.{at_line, beside_then, ends_beyond, ends_failed, ends_here, ends_last, ends_line, goes_on}
use Rattle.jt_input.proofs.Fronts.{few_lines}
use Rattle.jt_report_command.proofs.noting.note_fixes.Goals as goal

pub overflow_add-number : goal.overflow_add-number
overflow_add-number g c =
    let h = c.loop-terminal.invariant.0 in
    let few = few_lines (length h.lines + 1) c.next.new.self.held.line (c.in-Line.ensures.goes h.text h.lines h.told).tells.1 in omega (arith, few, h.count)

pub loop-terminal-smaller : goal.loop-terminal-smaller
loop-terminal-smaller g c =
    let h = c.loop-terminal.invariant.0 in
    let few = few_lines (length h.lines + 1) c.next.new.self.held.line (c.in-Line.ensures.goes h.text h.lines h.told).tells.1 in omega (arith, few, h.count)

pub loop-terminal-preserved : goal.loop-terminal-preserved
loop-terminal-preserved g c =
    let h = c.loop-terminal.invariant.0 in
    let notes = at_line (Ok (tt {0})) (g.V.Vault.limit c.loop-terminal.terminal.vault) c.loop-terminal.number _ _ (noting c.loop-terminal.terminal.state (g.V.Vault.holds c.loop-terminal.terminal.vault))
    (noting c.note_line.new.terminal.state (g.V.Vault.holds c.note_line.new.terminal.vault)) c.line.ensures c.in-Ok.ensures.line in (
      goes_on _ _ _ _ _ _ _ _ _ (g.V.Vault.limit c.loop-terminal.terminal.vault) h (c.in-Line.ensures.goes h.text h.lines h.told) notes,
      beside_then _ _ _ _ _ _ _ _ _ _ _ _ (tt {0}) (Ok (tt {0})) c.loop-terminal.invariant.1 c.in-Ok.ensures.beside,
      c.in-Line.ensures.still (λ e. cc) ∙ c.loop-terminal.invariant.2,
    )

pub returns-in-Err-clause-notes : goal.returns-in-Err-clause-notes
returns-in-Err-clause-notes g c =
    let h = c.loop-terminal.invariant.0 in
    let notes = at_line {T = Unit {0}} (Err c.in-Err.error) (g.V.Vault.limit c.loop-terminal.terminal.vault) c.loop-terminal.number _ _ (noting c.loop-terminal.terminal.state (g.V.Vault.holds c.loop-terminal.terminal.vault))
    (noting c.note_line.new.terminal.state (g.V.Vault.holds c.note_line.new.terminal.vault)) c.line.ensures c.in-Err.ensures.line in
    ends_line c.law_lines.ensures.front c.in-Err.error _ _ _ _ _ _ _ _ _ _ _ h (c.in-Line.ensures.goes h.text h.lines h.told) c.loop-terminal.invariant.1.limit notes

pub returns-in-Last-clause-notes : goal.returns-in-Last-clause-notes
returns-in-Last-clause-notes g c =
    let h = c.loop-terminal.invariant.0 in
    let notes = at_line c.note_line-in-Last.result (g.V.Vault.limit c.loop-terminal.terminal.vault) c.loop-terminal.number _ _ (noting c.loop-terminal.terminal.state (g.V.Vault.holds c.loop-terminal.terminal.vault))
    (noting c.note_line-in-Last.new.terminal.state (g.V.Vault.holds c.note_line-in-Last.new.terminal.vault)) c.line-in-Last.ensures c.note_line-in-Last.ensures.line in
    ends_last c.note_line-in-Last.result _ _ _ _ _ _ _ _ _ _ _ h (c.in-Last.ensures.goes h.text h.lines h.told) c.loop-terminal.invariant.1.limit notes

pub returns-in-End-clause-notes : goal.returns-in-End-clause-notes
returns-in-End-clause-notes g c =
    let h = c.loop-terminal.invariant.0 in ends_here (tt {0}) _ _ _ _ _ _ _ _ _ h (c.in-End.ensures.goes h.text h.lines h.told)

pub returns-in-Bad-clause-notes : goal.returns-in-Bad-clause-notes
returns-in-Bad-clause-notes g c =
    let h = c.loop-terminal.invariant.0 in ends_beyond _ _ _ _ c.in-Bad.number _ _ _ _ _ h (c.in-Bad.ensures.goes h.text h.lines h.told)

pub returns-in-Failed-clause-notes : goal.returns-in-Failed-clause-notes
returns-in-Failed-clause-notes g c =
    let h = c.loop-terminal.invariant.0 in ends_failed c.law_lines.ensures.front _ _ _ _ _ _ _ _ _ h (c.in-Failed.ensures.goes h.text h.lines h.told)
