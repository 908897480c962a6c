-- What is to run comes back as it was.
use Rattle.std.proofs.Common.{◌≡◌}
use Rattle.jt_server.proofs.threads.spawn_patiently.Given as goal

abbrev pub invariant-loop : goal.invariant-loop
invariant-loop g l = l.work ≡ l.fn.work
