use Rattle.std.proofs.Common.{List, ℕ, inl, refl, subst}
use Rattle.jt_play.specs.Laws.{RecordsAtMost}
use Rattle.jt_script.specs.declared.world_event.WorldEvent.TheVariants as line
use Rattle.jt_gateway.specs.Pumping.{RecordsOne}
use Rattle.jt_gateway.proofs.Editions.{stays_2019}
use Rattle.jt_gateway.proofs.Pumping.{one_recorded}
use Rattle.jt_gateway.proofs.gateway.record.Goals as goal

pub returns-in-Ok-clause-records : goal.returns-in-Ok-clause-records
returns-in-Ok-clause-records c =
    subst (λ (fix : List ℕ). RecordsOne c.args.world.now c.step.new.self fix c.without_entries.result) c.in-Ok.ensures.cases
    (one_recorded c.args.world.now c.step.new.self c.in-Ok.fix c.step.result c.without_entries.result c.without_entries.ensures
    c.step.ensures.scripted (c.step.ensures.played tt) c.step.ensures.identity c.step.ensures.edition c.step.ensures.no_line c.step.ensures.full c.step.ensures.room c.step.ensures.same)

pub returns-in-Ok-clause-recorded : goal.returns-in-Ok-clause-recorded
returns-in-Ok-clause-recorded c =
    subst (λ (fix : List ℕ). RecordsAtMost (line.Raw fix) c.args.world.now.play.world.terminal.recorded c.step.new.self.play.world.terminal.recorded) c.in-Ok.ensures.cases c.step.ensures.recorded

pub returns-in-Err-clause-recorded : goal.returns-in-Err-clause-recorded
returns-in-Err-clause-recorded c = inl refl

pub returns-in-Ok-clause-edition : goal.returns-in-Ok-clause-edition
returns-in-Ok-clause-edition c = λ is. stays_2019 c.args.world.now c.step.new.self (line.Raw c.in-Ok.fix) refl is c.step.ensures.identity c.step.ensures.present c.step.ensures.phone
