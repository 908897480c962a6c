use Rattle.std.proofs.Common.{refl}
use Rattle.jt_escape.specs.declared.splitter.Split.TheVariants as split
use Rattle.jt_stream.specs.Item.{Refused}
use Rattle.jt_view.proofs.Told.{judges_item}
use Rattle.jt_view.proofs.judged.judge_told.Goals as goal

pub returns-in-Refused : goal.returns-in-Refused
returns-in-Refused c =
    rw c.in-Refused.is (judges_item (split.Refused c.in-Refused.refusal) c.args.stream.now.splitter c.args.taken.now (Refused c.in-Refused.refusal) _ (refl, tt) refl)
