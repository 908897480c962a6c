use Rattle.jt_store_answers.proofs.Testing.{IsTested}
use Rattle.jt_store_answers.proofs.order.are_in_order.Given as goal

abbrev pub invariant-loop-unit : goal.invariant-loop-unit
invariant-loop-unit l = IsTested l.mark l.low l.unit-index l.units
