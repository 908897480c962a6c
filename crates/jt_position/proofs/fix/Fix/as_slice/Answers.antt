use Rattle.jt_position.proofs.FixLaws.{is_fix}
use Rattle.jt_position.proofs.fix.Fix.as_slice.Goals as goal

pub returns-clause-fix : goal.returns-clause-fix
returns-clause-fix c = rw (← c.self.view_is) (is_fix c.self.inside.octets c.self.invariant.1 c.self.invariant.0 c.self.invariant.2)
