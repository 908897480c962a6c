use Rattle.jt_value.proofs.Reaching.{leads_both}
use Rattle.jt_octets.specs.Steps.{MayCome, after}
use Rattle.jt_gateway.proofs.Pumping.{at_error, at_next, first_at, first_more}
use Rattle.jt_gateway.proofs.gateway.record_all.Goals as goal

pub returns-in-Err-clause-records : goal.returns-in-Err-clause-records
returns-in-Err-clause-records c =
    at_error c.args.world.now c.loop-fix.world c.record.new.world c.args.fixes.now c.loop-fix.fix-index c.fix-item.result c.in-Err.error c.loop-fix-test.true c.loop-fix.invariant.at c.in-Err.ensures.records

pub returns-in-Err-clause-first : goal.returns-in-Err-clause-first
returns-in-Err-clause-first c =
    first_more c.args.world.now c.loop-fix.world c.record.new.world c.args.fixes.now c.loop-fix.fix-index c.fix-item.result c.loop-fix-test.true c.fix-item.is c.loop-fix.invariant.at c.record.ensures.recorded

pub returns-in-Err-clause-leads : goal.returns-in-Err-clause-leads
returns-in-Err-clause-leads c = leads_both MayCome after c.args.world.now.play.world c.loop-fix.world.play.world c.record.new.world.play.world c.loop-fix.invariant.leads c.in-Err.ensures.leads

pub loop-fix-preserved : goal.loop-fix-preserved
loop-fix-preserved c = record {
  at = at_next c.args.world.now c.loop-fix.world c.record.new.world c.args.fixes.now c.loop-fix.fix-index c.fix-item.result c.in-Ok.field-0 c.loop-fix-test.true c.fix-item.is c.loop-fix.invariant.at c.in-Ok.ensures.records;
  edition = λ is. c.in-Ok.ensures.edition (c.loop-fix.invariant.edition is);
  leads = leads_both MayCome after c.args.world.now.play.world c.loop-fix.world.play.world c.record.new.world.play.world c.loop-fix.invariant.leads c.in-Ok.ensures.leads;
}

pub returns-clause-first : goal.returns-clause-first
returns-clause-first c = first_at c.args.world.now c.loop-fix.world c.args.fixes.now c.loop-fix.fix-index c.loop-fix.invariant.at

pub returns-in-Err-clause-edition : goal.returns-in-Err-clause-edition
returns-in-Err-clause-edition c = λ is. c.in-Err.ensures.edition (c.loop-fix.invariant.edition is)
