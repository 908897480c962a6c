use Rattle.jt_layout.proofs.Answering.{one_to_one}
use Rattle.jt_params.specs.Params.{params, params_reply, query_some}
use Rattle.jt_params.proofs.ParamLaws.{params_law, params_reply_law, query_some_law}
use Rattle.jt_params.proofs.bodies.law_param_bodies.Goals as goal

pub returns : goal.returns
returns c = record {
  params = one_to_one params params_law;
  reply = one_to_one params_reply params_reply_law;
  query = one_to_one query_some query_some_law;
}
