use Rattle.std.proofs.Common.{arith}
use Rattle.jt_layout.proofs.Answering.{answers}
use Rattle.jt_params.specs.Params.{query_some}
use Rattle.jt_params.proofs.ParamLaws.{query_some_law}
use Rattle.jt_params.proofs.bodies.read_query_some.Goals as goal

pub returns : goal.returns
returns c = answers query_some query_some_law c.args.octets.now c.query_some_in.result (λ i. omega (arith, c.type_inv.octets i)) c.query_some_in.ensures
