use Rattle.jt_terminal_rule.specs.Rule as rule
use Rattle.jt_terminal_steps.proofs.Chaining.{any_err}
use Rattle.jt_order_terminal.proofs.Doing.{cut_all}
use Rattle.jt_order_terminal.proofs.hearing.hear_other.Goals as goal

pub returns-in_err-take-in-Ok-clause-cut : goal.returns-in_err-take-in-Ok-clause-cut
returns-in_err-take-in-Ok-clause-cut g c =
    any_err _ (cut_all (rule.on_message c.args.terminal.now.state c.args.header c.args.message).steps (g.V.Vault.holds c.args.terminal.now.vault) (g.V.Vault.holds c.event.new.self.vault) c.in-Ok.ensures.vault)
