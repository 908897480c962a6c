use Rattle.jt_platform.proofs.Places.{keeps_both}
use Rattle.jt_platform.proofs.index.Index.forget_unused.Goals as goal

pub returns : goal.returns
returns c = keeps_both c.args.self.now c.forget_live.new.self c.forget_holder.new.self c.forget_live.ensures c.forget_holder.ensures
