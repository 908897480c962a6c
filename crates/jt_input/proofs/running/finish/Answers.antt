use Rattle.std.proofs.Common.{inr}
use Rattle.jt_input.proofs.Steps.{part_none}
use Rattle.jt_input.proofs.running.finish.Goals as goal

pub returns-in-Err-clause-finishes : goal.returns-in-Err-clause-finishes
returns-in-Err-clause-finishes g c = inr (tt, part_none _ _ (g.T.Teller.stands c.args.teller.now) (g.T.Teller.has_told c.end.new.self) _ _)
