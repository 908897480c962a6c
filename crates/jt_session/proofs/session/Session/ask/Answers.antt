use Rattle.jt_platform.specs.Hub.{opening_of}
use Rattle.jt_platform.specs.History.{newest}
use Rattle.jt_session.proofs.Hubs.{ask_closed, ask_feeds, reply_room}
use Rattle.jt_session.proofs.session.Session.ask.Goals as goal

pub reply-requires-clause-code : goal.reply-requires-clause-code
reply-requires-clause-code g c =
    let hub = c.args.hub.now in
    reply_room (opening_of (g.P.Keeper.tables hub.start) (g.P.Keeper.limit hub.start) hub.fleet hub.secret) (newest hub.history) c.number.result c.args.request c.act-reply.result c.act-reply.ensures.allowed

pub returns-clause-feeds : goal.returns-clause-feeds
returns-clause-feeds g c =
    let hub = c.args.hub.now in
    ask_feeds c.args.self.now c.reply.new.self (opening_of (g.P.Keeper.tables hub.start) (g.P.Keeper.limit hub.start) hub.fleet hub.secret) hub.history c.act-reply.new.self.history c.args.out.now.items c.reply.new.out.items c.number.result c.args.request c.act-reply.result c.reply.result
    c.requires.waits c.reply.ensures.turn c.number.ensures c.act-reply.ensures.allowed c.act-reply.ensures.history c.reply.ensures.fed

pub returns-clause-closed : goal.returns-clause-closed
returns-clause-closed g c session =
    ask_closed c.args.self.now c.args.hub.now.history c.act-reply.new.self.history c.number.result c.args.request c.act-reply.result session c.requires.waits c.act-reply.ensures.history
