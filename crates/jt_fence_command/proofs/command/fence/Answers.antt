use Rattle.jt_input.proofs.Opened.{prints_opened, reads_opened, stops_opened}
use Rattle.jt_fence_command.specs.Tally.{first_tally}
use Rattle.jt_fence_command.proofs.Runs.{begins, is_taken, watches}
use Rattle.jt_fence_command.proofs.command.fence.Goals as goal

pub returns-clause-watches : goal.returns-clause-watches
returns-clause-watches g c =
    let new = c.new-teller in
    let begun = begins c.new.result new.result.hearer new.result.cutter new.result.bad new.ensures.begins c.new.ensures in
    watches _ _ _ _ _ _ (c.run_teller.ensures.runs first_tally begun) (c.run_teller.ensures.whole first_tally begun)
    (reads_opened _ _ (λ front text some. is_taken some.0.hearer some.0.cutter some.0.bad front text some.1) _ _ _ (c.run_teller.ensures.no_further first_tally begun))
    (λ fault. prints_opened _ _ (λ front text some. is_taken some.0.hearer some.0.cutter some.0.bad front text some.1) _ _ _ _ (c.run_teller.ensures.prints_taken first_tally begun fault))
    (λ fault. stops_opened _ _ (λ front text some. is_taken some.0.hearer some.0.cutter some.0.bad front text some.1) _ _ _ _ _ _ (c.run_teller.ensures.stops_at_write first_tally begun fault))
    c.run_teller.ensures.to_the_end
