use Rattle.std.proofs.Common.{refl}
use Rattle.jt_escape.specs.declared.splitter.Split.TheVariants as split
use Rattle.jt_stream.specs.Item.{Frame, Refused}
use Rattle.jt_view.proofs.Told.{judges_body, judges_item}
use Rattle.jt_view.proofs.judged.judge_frame.Goals as goal

pub returns-in-Ok : goal.returns-in-Ok
returns-in-Ok c =
    judges_body split.Content c.args.stream.now.splitter c.args.taken.now (Frame c.in-Ok.place c.in-Ok.header c.in-Ok.body.now) c.judge_body.result c.in-Ok.ensures.item c.judge_body.ensures

pub returns-in-Err : goal.returns-in-Err
returns-in-Err c =
    judges_item split.Content c.args.stream.now.splitter c.args.taken.now (Refused c.in-Err.refusal) _ c.in-Err.ensures.refused refl
