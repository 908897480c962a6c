use Rattle.std.proofs.Common.{take, rules}
use Rattle.jt_session.proofs.Bringing.{came_nothing, came_refused, came_frame}
use Rattle.jt_session.proofs.reading.read_item.Goals as goal

pub returns-in-More-clause-came : goal.returns-in-More-clause-came
returns-in-More-clause-came c =
    came_nothing c.law_one_list.ensures.some c.law_items.ensures c.args.stream.now.splitter c.take-count.new.self.splitter (take c.take-count.result.0 c.args.octets.now) c.take-count.result.1 c.args.kept.now c.args.out.now.items c.args.out.now.spare c.in-More.is c.take-count.ensures.items

pub returns-in-Refused-clause-came : goal.returns-in-Refused-clause-came
returns-in-Refused-clause-came c =
    came_refused c.law_one_list.ensures.some c.law_items.ensures c.args.stream.now.splitter c.take-count.new.self.splitter (take c.take-count.result.0 c.args.octets.now) c.take-count.result.1 c.in-Refused.field-0 c.args.kept.now _ c.args.out.now.items c.args.out.now.spare c.in-Refused.is c.take-count.ensures.items (search rules)

pub returns-in-Frame-clause-came : goal.returns-in-Frame-clause-came
returns-in-Frame-clause-came c =
    came_frame c.law_one_list.ensures.some c.law_items.ensures c.args.stream.now.splitter c.take-count.new.self.splitter (take c.take-count.result.0 c.args.octets.now) c.take-count.result.1 c.args.kept.now c.read_frame.new.kept c.args.out.now.items c.read_frame.new.out.items c.read_frame.new.out.spare c.read_frame.result c.in-Frame.is c.take-count.ensures.items c.read_frame.ensures.came
