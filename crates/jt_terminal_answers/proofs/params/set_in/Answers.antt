use Rattle.std.proofs.Common.{subst, arith}
use Rattle.jt_params.specs.Refused.{IsTooMany}
use Rattle.jt_params.specs.declared.table.ParamError.{ParamError}
use Rattle.jt_params.specs.declared.table.ParamError.TheVariants.{TooMany}
use Rattle.jt_terminal_rule.proofs.Tabling.{params_refused, params_taken}
use Rattle.jt_terminal_answers.proofs.params.set_in.Goals as goal

pub returns-in-Ok-clause-ok : goal.returns-in-Ok-clause-ok
returns-in-Ok-clause-ok c = params_taken c.args.params.now c.args.table.now c.set_all.new.self c.in-Ok.ensures.ok c.in-Ok.ensures.few

pub returns-in-Err-TooMany-clause-ok : goal.returns-in-Err-TooMany-clause-ok
returns-in-Err-TooMany-clause-ok c =
    let many : IsTooMany c.args.params.now c.args.table.now (TooMany c.in-Err-TooMany.field-0-0) = subst (λ (e : ParamError). IsTooMany c.args.params.now c.args.table.now e) c.in-Err-TooMany.field-0-is c.in-Err-TooMany.ensures.too_many in
    let is = many.2 in
    let lt = many.3 in (params_refused c.args.params.now c.args.table.now many.0 many.1 (omega (arith, is, lt)), c.in-Err-TooMany.ensures.err)
