use Rattle.std.proofs.Common.{refl}
use Rattle.jt_view.proofs.InputTaken.{stands_first}
use Rattle.jt_view.proofs.reporter.Reporter.new.Goals as goal

pub returns-clause-stands : goal.returns-clause-stands
returns-clause-stands c = stands_first _ c.new.ensures c.new-3.ensures refl
