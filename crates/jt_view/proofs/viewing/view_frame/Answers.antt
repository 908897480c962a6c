use Rattle.jt_escape.specs.declared.splitter.Split.TheVariants as split
use Rattle.jt_stream.specs.Item.{Frame, Refused}
use Rattle.jt_view.proofs.Told.{views_body}
use Rattle.jt_view.proofs.viewing.view_frame.Goals as goal

pub returns-in-Ok : goal.returns-in-Ok
returns-in-Ok c =
    views_body split.Content c.args.stream.now.splitter c.args.taken.now (Frame c.in-Ok.place c.in-Ok.header c.in-Ok.body.now) c.view_body.result _ _ c.in-Ok.ensures.item c.view_body.ensures

pub returns-in-Err : goal.returns-in-Err
returns-in-Err c =
    views_body split.Content c.args.stream.now.splitter c.args.taken.now (Refused c.in-Err.refusal) c.view_refusal.result _ _ c.in-Err.ensures.refused c.view_refusal.ensures
