use Rattle.std.proofs.Common.{List, subst}
use Rattle.std.specs.FinMap.{empty}
use Rattle.jt_params.specs.declared.param.Param.{Param}
use Rattle.jt_params.specs.Tables.{Sets}
use Rattle.jt_terminal_steps.proofs.Copied.{copied}
use Rattle.jt_terminal_steps.proofs.copying.copy_params.Goals as goal

pub returns-in-Ok : goal.returns-in-Ok
returns-in-Ok c =
    copied c.args.params.now c.set_all.new.self (subst (λ (ps : List Param). Sets ps empty c.set_all.new.self) c.in_ok-list.ensures.params (rw (c.new-copy.ensures.empty) at c.in-Ok.ensures.ok))
