use Rattle.jt_session.proofs.Replying.{replied_seen}
use Rattle.jt_session.proofs.session.Session.reply.Goals as goal

pub returns-clause-turn : goal.returns-clause-turn
returns-clause-turn c =
    let inside = c.self.inside in
    replied_seen c.args.self.now inside.number inside.stream.splitter inside.waiting c.in-Some.header inside.kept inside.before.value c.answer.new.self inside.over c.ends-self-inside.result c.args.reply.now c.args.out.now.items c.answer.new.out.items
    c.self.view_is c.in-Some.is c.requires.on c.self.invariant.0 c.answer.ensures.state c.answer.ensures.out c.ends-self-inside.ensures
