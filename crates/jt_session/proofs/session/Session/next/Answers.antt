use Rattle.std.proofs.Common.{take}
use Rattle.jt_session.proofs.Stepping.{quiet_next, asks_next, short_next}
use Rattle.jt_session.proofs.session.Session.next.Goals as goal

pub returns-in-Quiet-clause-goes : goal.returns-in-Quiet-clause-goes
returns-in-Quiet-clause-goes c =
    let inside = c.self.inside in
    quiet_next c.args.self.now inside.number inside.stream.splitter c.read_item-count.new.stream.splitter inside.waiting inside.kept inside.before.value c.read_item-count.new.kept c.of.result.value inside.over (take c.read_item-count.result.0 c.args.octets.now) c.args.out.now.items c.read_item-count.new.out.items c.read_item-count.new.out.spare
    c.self.view_is c.requires.waits c.requires.on c.read_item-count.result.1 c.in-Quiet.is c.read_item-count.ensures.came

pub returns-in-Asks-clause-goes : goal.returns-in-Asks-clause-goes
returns-in-Asks-clause-goes c =
    let inside = c.self.inside in
    asks_next c.args.self.now inside.number inside.stream.splitter c.read_item-count.new.stream.splitter inside.waiting inside.kept inside.before.value c.read_item-count.new.kept c.of.result.value inside.over (take c.read_item-count.result.0 c.args.octets.now) c.args.out.now.items c.read_item-count.new.out.items c.read_item-count.new.out.spare
    c.self.view_is c.requires.waits c.requires.on c.read_item-count.result.1 c.in-Asks.header c.in-Asks.request c.in-Asks.is c.read_item-count.ensures.came c.of.ensures

pub returns-in-Memory-clause-goes : goal.returns-in-Memory-clause-goes
returns-in-Memory-clause-goes c =
    let inside = c.self.inside in
    short_next c.args.self.now inside.number inside.stream.splitter c.read_item-count.new.stream.splitter inside.waiting inside.kept inside.before.value c.read_item-count.new.kept c.of.result.value inside.over (take c.read_item-count.result.0 c.args.octets.now) c.args.out.now.items c.read_item-count.new.out.items c.read_item-count.new.out.spare
    c.self.view_is c.requires.waits c.requires.on c.read_item-count.result.1 c.in-Memory.is c.read_item-count.ensures.came
