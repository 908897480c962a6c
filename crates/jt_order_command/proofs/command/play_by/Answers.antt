use Rattle.jt_input.proofs.Opened.{prints_opened, reads_opened, stops_opened}
use Rattle.jt_order_command.specs.Script.{first_scene}
use Rattle.jt_order_command.proofs.Runs.{is_taken, runs}
use Rattle.jt_order_command.proofs.command.play_by.Goals as goal

pub returns-clause-runs : goal.returns-clause-runs
returns-clause-runs g c =
    let begun = c.requires.unheard in
    let ran = c.run_teller.ensures in
    let law = c.law_order_world.ensures in
    runs law.obeyed law.none_refused law.one c.run_teller.new.teller.hearer c.run_teller.new.teller.bad _ _ _ _ _ (ran.runs first_scene begun) (ran.whole first_scene begun)
    (reads_opened _ _ (λ front text some. is_taken some.0.hearer some.0.cutter some.0.bad front text some.1) _ _ _ (ran.no_further first_scene begun))
    (λ fault. prints_opened _ _ (λ front text some. is_taken some.0.hearer some.0.cutter some.0.bad front text some.1) _ _ _ _ (ran.prints_taken first_scene begun fault))
    (λ fault. stops_opened _ _ (λ front text some. is_taken some.0.hearer some.0.cutter some.0.bad front text some.1) _ _ _ _ _ _ (ran.stops_at_write first_scene begun fault))
    ran.to_the_end
