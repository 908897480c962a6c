use Rattle.jt_platform.specs.Hub.{opening_of}
use Rattle.jt_platform.proofs.Asking.{gives_from}
use Rattle.jt_platform.proofs.desk.HubDesk.act.Goals as goal

pub returns-clause-answer : goal.returns-clause-answer
returns-clause-answer g c =
    let hub = c.args.self.now in
    let told = c.act.ensures in
    gives_from (opening_of (g.P.Keeper.tables hub.start) (g.P.Keeper.limit hub.start) hub.fleet hub.secret) hub.reserved hub.history (g.P.Keeper.faults hub.keeper) (g.P.Keeper.faults c.act.new.self.keeper)
    c.args.session c.args.ask.now c.act.result told.allowed told.close told.reason.fault told.reason.still
