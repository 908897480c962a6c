use Rattle.std.proofs.Common.{reverse, ap, ◌∙◌}
use Rattle.jt_server.proofs.Accepting.{new_turned}
use Rattle.jt_server.proofs.passes.split_all.Goals as goal

pub returns-in-Ok-split_each-clause-ok : goal.returns-in-Ok-split_each-clause-ok
returns-in-Ok-split_each-clause-ok g c =
    let split = c.in-Ok-split_each.ensures in
    new_turned c.args.pass.now.opening c.args.turn.now c.args.sessions c.split_each.new.passes.items c.reverse.new.self.items
    (c.reverse.ensures.items ∙ ap reverse (c.into_vec-passes.ensures ∙ c.into_seq.ensures)) split.all split.unused split.numbers
