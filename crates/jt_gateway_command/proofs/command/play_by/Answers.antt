use Rattle.jt_input.proofs.Opened.{prints_opened, reads_opened, stops_opened}
use Rattle.jt_gateway.specs.Gateway.{first_gateway}
use Rattle.jt_gateway_command.proofs.Runs.{is_taken, runs}
use Rattle.jt_gateway_command.proofs.command.play_by.Goals as goal

pub returns-clause-runs : goal.returns-clause-runs
returns-clause-runs g c =
    let begun = c.requires.unheard in
    let ran = c.run_teller.ensures in
    runs c.law_gateway.ensures.passes c.run_teller.new.teller.hearer c.run_teller.new.teller.bad _ _ _ _ _ (ran.runs first_gateway begun) (ran.whole first_gateway begun)
    (reads_opened _ _ (λ front text some. is_taken some.0.hearer some.0.cutter some.0.bad front text some.1) _ _ _ (ran.no_further first_gateway begun))
    (λ fault. prints_opened _ _ (λ front text some. is_taken some.0.hearer some.0.cutter some.0.bad front text some.1) _ _ _ _ (ran.prints_taken first_gateway begun fault))
    (λ fault. stops_opened _ _ (λ front text some. is_taken some.0.hearer some.0.cutter some.0.bad front text some.1) _ _ _ _ _ _ (ran.stops_at_write first_gateway begun fault))
    ran.to_the_end
