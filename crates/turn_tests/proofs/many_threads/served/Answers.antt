use Rattle.std.proofs.Common.{ap, ◌∙◌}
use lib.ListN.{get_elem?}
use Rattle.atomic_table.proofs.Lists.{at_map}
use Rattle.turn_tests.specs.Reports.{ended_of}
use Rattle.turn_tests.proofs.many_threads.served.Goals as goal

pub returns : goal.returns
returns g c = λ m r at. c.close.ensures.ended m (ended_of r) (ap (λ l. get_elem? l m) c.in_ok-pass.ensures.ended ∙ at_map ended_of c.in_ok-pass.reports.items m r at)
