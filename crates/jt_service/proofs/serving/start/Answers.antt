use denote.Param.{param}
use denote.Param.Send.{IsSend, IsSync, sendable}
use Rattle.std.proofs.Crossing.{crosses}
use Rattle.jt_service.proofs.Crosses.{pass_send, turn_sync, watch_sync}
use Rattle.jt_service.proofs.serving.start.Goals as goal

pub spawn-requires-send-F : goal.spawn-requires-send-F
spawn-requires-send-F g c κs within =
    let n : IsSend (param 1 g.row.N) = search (c.type_bounds.send-N, sendable) in
    let handle : IsSync (param 2 g.row.R) = search (c.type_bounds.sync-R, sendable) in
    let l : IsSend (param 3 g.row.K) = search (c.type_bounds.send-K, sendable) in
    let p : IsSend (param 4 g.row.P) = search (c.type_bounds.send-P, sendable) in
    let j : IsSend (param 5 g.row.J) = search (c.type_bounds.send-J, sendable) in
    let t : IsSend (param 6 g.row.T) = search (c.type_bounds.send-T, sendable) in
    let pass = pass_send (param 4 g.row.P) g.P.Keeper p (param 5 g.row.J) g.J.Journal j in
    let turn = turn_sync (param 4 g.row.P) g.P.Keeper p (param 5 g.row.J) g.J.Journal j in
    let watch = watch_sync (param 6 g.row.T) t in
    search (sendable, crosses) depth 40 fits 100000
