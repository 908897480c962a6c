use Rattle.jt_order_command.proofs.Runs.{runs_nothing}
use Rattle.jt_order_command.proofs.command.orders.Goals as goal

pub returns-in_default-clause-runs : goal.returns-in_default-clause-runs
returns-in_default-clause-runs g c = runs_nothing _ _
