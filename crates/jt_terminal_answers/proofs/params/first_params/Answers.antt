use Rattle.std.proofs.Common.{◌≡◌, List, rules, subst}
use Rattle.std.specs.FinMap.{empty}
use Rattle.jt_params.specs.declared.param.Param.{Param}
use Rattle.jt_params.specs.Tables.{Sets}
use Rattle.jt_terminal_rule.specs.Rule.{first_params}
use Rattle.jt_terminal_rule.proofs.Tabling.{params_set}
use Rattle.jt_terminal_answers.proofs.params.first_params.Goals as goal

pub returns-in-Ok-clause-table : goal.returns-in-Ok-clause-table
returns-in-Ok-clause-table c =
    let list : c.push-3.new.self ≡ first_params c.args.settings.now = search rules in
    params_set (first_params c.args.settings.now) empty c.set_all.new.self (subst (λ (ps : List Param). Sets ps empty c.set_all.new.self) list (rw (c.new-params.ensures.empty) at c.in-Ok.ensures.ok))
