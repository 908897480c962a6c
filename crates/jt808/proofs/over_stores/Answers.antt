use denote.Exit.{no}
use denote.Param.Send.{arg_send, param_send}
use Rattle.jt_sql.proofs.Crosses.{keeper_send}
use Rattle.jt808.proofs.over_stores.Goals as goal

pub ran-requires-send-P : goal.ran-requires-send-P
ran-requires-send-P g c κs _ = param_send _ _ (arg_send _ no _ keeper_send)
