use Rattle.std.proofs.Common.{sym}
use Rattle.jt_input.proofs.Cutting.{ends_whole, ends_empty, ends_begun}
use Rattle.jt_input.proofs.line_cutter.LineCutter.last.Goals as goal

pub returns-then-self-clause-lines : goal.returns-then-self-clause-lines
returns-then-self-clause-lines c = ends_whole _ _ c.self.view_is c.if-self.true

pub returns-then-is_empty-clause-lines : goal.returns-then-is_empty-clause-lines
returns-then-is_empty-clause-lines c = ends_empty _ _ c.self.view_is c.if-self.false (sym c.if-is_empty.ensures)

pub returns-else-is_empty-clause-lines : goal.returns-else-is_empty-clause-lines
returns-else-is_empty-clause-lines c = ends_begun _ _ _ c.self.view_is c.if-self.false (sym c.if-is_empty.ensures) c.as_slice.ensures.value
