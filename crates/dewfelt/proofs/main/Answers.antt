use denote.Exit.{no}
use denote.Param.Send.{arg_send, param_send}
use Rattle.dewfelt.proofs.Crosses.{file_keeper_send}
use Rattle.dewfelt.proofs.main.Goals as goal

pub run-requires-send-K : goal.run-requires-send-K
run-requires-send-K g c κs = param_send _ _ (arg_send _ no _ file_keeper_send)
