use denote.Exit.{no}
use denote.Param.Send.{arg_send, param_send}
use Rattle.jt_sql.proofs.Crosses.{keeper_send}
use Rattle.jt_sql.proofs.sql_keeper.crosses.Goals as goal

pub may_move-requires-send-T : goal.may_move-requires-send-T
may_move-requires-send-T c κs = param_send _ _ (arg_send _ no _ keeper_send)
