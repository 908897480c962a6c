use Rattle.std.proofs.Common.{get_or, ◌∙◌, arith}
use Rattle.std.proofs.lemmas.List.{take_more}
use Rattle.jt_session.specs.declared.end.End.TheVariants as ends
use Rattle.jt_session.specs.declared.report.Report.{Report}
use Rattle.jt_platform_command.specs.Platform.{is_memory, is_store_fault}
use Rattle.jt_platform_command.proofs.Folds.{some_more, limit_more}
use Rattle.jt_platform_command.proofs.printing.Ends.of.Goals as goal

pub loop-report-preserved : goal.loop-report-preserved
loop-report-preserved c =
    let xs = c.args.reports.now in
    let i = c.loop-report.report-index in
    let none : Report = record { session = 0; read = 0; written = 0; frames = 0; refused = 0; dropped = 0; end = ends.Ended } in
    let x = get_or xs i none in
    let more = take_more xs i none (omega (arith, c.loop-report-test.true)) in (
      c.with-ends.ensures.memory ∙ some_more is_memory xs i _ x more c.loop-report.invariant.0,
      c.with-ends.ensures.store_fault ∙ some_more is_store_fault xs i _ x more c.loop-report.invariant.1,
      c.with-ends.ensures.limit ∙ limit_more xs i _ x more c.loop-report.invariant.2,
    )
