use Rattle.std.proofs.Common.{inr}
use Rattle.jt_input.proofs.Steps.{advanced, part_none}
use Rattle.jt_input.proofs.running.advance.Goals as goal

pub returns-in-Ok-clause-advances : goal.returns-in-Ok-clause-advances
returns-in-Ok-clause-advances g c =
    advanced _ _ _ _ _ _ _ _ _ _ (rw c.clear.ensures.bytes at c.in-Ok.ensures.takes) c.write.ensures.writes

pub returns-in-Err-clause-advances : goal.returns-in-Err-clause-advances
returns-in-Err-clause-advances g c = inr (tt, part_none _ _ (g.T.Teller.stands c.take.new.self) (g.T.Teller.has_told c.take.new.self) _ _)
