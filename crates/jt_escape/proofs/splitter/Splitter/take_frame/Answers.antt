use Rattle.std.proofs.Common.{◌+◌, take}
use Rattle.jt_escape.proofs.Lending.{InPlace, in_place}
use Rattle.jt_escape.proofs.splitter.Splitter.take_frame.Goals as goal

lent_so : (c : goal.After-lend) → InPlace c.args.self.now c.lend.new.self (take (c.plain_front-count.result + 2) c.args.piece.now)
lent_so c =
    let closed = c.is_closed.ensures c.if-not-is_closed.false in
    in_place c.args.self.now c.lend.new.self c.args.piece.now c.plain_front-count.result c.requires.mode c.lend.ensures closed.0 c.plain_front-count.ensures.short closed.1 c.requires.flag closed.2 c.plain_front-count.ensures.plain

pub returns-clause-runs : goal.returns-clause-runs
returns-clause-runs c = (lent_so c).runs

pub returns-clause-content : goal.returns-clause-content
returns-clause-content c = λ _. (lent_so c).content
