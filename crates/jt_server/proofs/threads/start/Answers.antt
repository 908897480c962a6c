use denote.Param.{param}
use denote.Param.Send.{IsSend, IsSync, arg_send, param_send, sendable}
use Rattle.std.proofs.Crossing.{crosses}
use Rattle.jt_server.proofs.Crosses.{pass_send, turn_sync, work_send}
use Rattle.jt_server.proofs.threads.start.Goals as goal

pub spawn_patiently-requires-send-F : goal.spawn_patiently-requires-send-F
spawn_patiently-requires-send-F g c κs within =
    let p : IsSend (param 3 g.row.P) = search (c.type_bounds.send-P, sendable) in
    let link : IsSend (param 2 g.row.K) = search (c.type_bounds.send-K, sendable) in
    let handle : IsSync (param 1 g.row.R) = search (c.type_bounds.sync-R, sendable) in
    let pass = pass_send (param 3 g.row.P) g.P.Keeper p in
    let turn = turn_sync (param 3 g.row.P) g.P.Keeper p in
    search (sendable, crosses) depth 40 fits 100000

pub spawn_patiently-requires-send-T : goal.spawn_patiently-requires-send-T
spawn_patiently-requires-send-T g c κs within =
    let p : IsSend (param 3 g.row.P) = search (c.type_bounds.send-P, sendable) in
    let link : IsSend (param 2 g.row.K) = search (c.type_bounds.send-K, sendable) in
    let work = work_send (param 3 g.row.P) g.P.Keeper p (param 2 g.row.K) link in
    search (sendable, crosses) depth 40 fits 100000
