use Rattle.std.proofs.Common.{arith}
use Rattle.jt_layout.proofs.Answering.{answers}
use Rattle.jt_params.specs.Params.{params}
use Rattle.jt_params.proofs.ParamLaws.{params_law}
use Rattle.jt_params.proofs.bodies.read_params.Goals as goal

pub returns : goal.returns
returns c = answers params params_law c.args.octets.now c.params_in.result (λ i. omega (arith, c.type_inv.octets i)) c.params_in.ensures
