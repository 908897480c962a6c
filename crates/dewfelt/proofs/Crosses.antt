-- The keeper of a file may go to another thread.
use denote.Param.Send.{IsSend, sendable}
use Rattle.std.proofs.Crossing.{crosses}
use Rattle.jt_sql.proofs.Crosses.{keeper_send}
use Rattle.dewfelt.specs.contracts.file_keeper.FileKeeper

pub file_keeper_send : IsSend FileKeeper.the_row
file_keeper_send =
    let keeper = keeper_send in
    search (sendable, crosses) depth 40 fits 100000
