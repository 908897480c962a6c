use Rattle.std.proofs.Common.{arith}
use Rattle.jt_layout.proofs.Answering.{answers}
use Rattle.jt_params.specs.Params.{params_reply}
use Rattle.jt_params.proofs.ParamLaws.{params_reply_law}
use Rattle.jt_params.proofs.bodies.read_params_reply.Goals as goal

pub returns : goal.returns
returns c = answers params_reply params_reply_law c.args.octets.now c.params_reply_in.result (λ i. omega (arith, c.type_inv.octets i)) c.params_reply_in.ensures
