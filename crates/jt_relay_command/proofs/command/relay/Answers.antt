use Rattle.jt_relay_command.proofs.Faults.{store_fault}
use Rattle.jt_relay_command.proofs.command.relay.Goals as goal

pub returns-clause-runs : goal.returns-clause-runs
returns-clause-runs g c = let done = c.relay_rows-outcome.ensures in record {
  outcome = c.relay_rows-outcome.result;
  relays = done.relays;
  answers = c.tell_outcome.ensures.answers;
  tables = done.same.0;
  limits = (done.same.1, done.same.2);
  later = done.later;
  keeper = done.keeper;
  vault = done.vault;
  grows = done.grows;
  full = done.full;
  store_fault = store_fault _ _ _ _ _ _ _ _ c.tell_outcome.ensures.status done.keeper done.vault done.full;
}
