use Rattle.std.proofs.Common.{refl}
use Rattle.jt_terminal_rule.specs.Rule.{on_message}
use Rattle.jt_terminal_steps.proofs.Chaining.{any_err, cut_none}
use Rattle.jt_terminal_steps.specs.AfterError.{lists_of}
use Rattle.jt_terminal_steps.proofs.Leaving.{lists_none, same_tables}
use Rattle.jt_terminal.proofs.Idling.{never_fails}
use Rattle.jt_terminal.proofs.feeding.hear_read.Goals as goal

pub returns-in_err-tell-clause-err : goal.returns-in_err-tell-clause-err
returns-in_err-tell-clause-err g c =
    any_err _ (cut_none (on_message c.args.state.now c.args.header.now c.args.message.now).steps (g.V.Vault.holds c.args.vault.now) (g.V.Vault.holds c.args.vault.now) refl)

pub returns-in_err-tell-clause-tables : goal.returns-in_err-tell-clause-tables
returns-in_err-tell-clause-tables g c = any_err _ (same_tables c.args.state.now)

pub returns-in_err-tell-clause-lists : goal.returns-in_err-tell-clause-lists
returns-in_err-tell-clause-lists g c = any_err _ (lists_none (on_message c.args.state.now c.args.header.now c.args.message.now).steps (lists_of c.args.state.now) (lists_of c.args.state.now) refl)

pub returns-clause-unmoved : goal.returns-clause-unmoved
returns-clause-unmoved g c = never_fails _ c.on_message.result c.args.state.now c.on_message.ensures.quiet
