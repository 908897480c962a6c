use Rattle.std.proofs.Common.{refl, subst, sym}
use Rattle.jt_params.specs.Tables.{HasOctets}
use Rattle.jt_terminal_rule.specs.Answers.{answer_to}
use Rattle.jt_terminal_rule.specs.Rule.{and_then, answers, fill_window}
use Rattle.jt_terminal_steps.proofs.Chaining.{any_err, cut_none}
use Rattle.jt_terminal_steps.proofs.Keeping.{sound_put_back}
use Rattle.jt_terminal_steps.proofs.Leaving.{lists_none, same_tables}
use Rattle.jt_terminal_steps.specs.AfterError.{lists_of}
use Rattle.jt_terminal_steps.proofs.hearing.answer_over_params.Goals as goal

pub returns-in_err-params-clause-err : goal.returns-in_err-params-clause-err
returns-in_err-params-clause-err g c = any_err _ (cut_none (and_then (answers c.args.state.now (answer_to c.args.state.now c.args.header.now c.args.message.now)) fill_window).steps (g.V.Vault.holds c.args.vault.now) (g.V.Vault.holds c.args.vault.now) refl)

pub returns-in_err-params-clause-lists : goal.returns-in_err-params-clause-lists
returns-in_err-params-clause-lists g c = any_err _ (lists_none (and_then (answers c.args.state.now (answer_to c.args.state.now c.args.header.now c.args.message.now)) fill_window).steps (lists_of c.args.state.now) (lists_of c.args.state.now) refl)

pub returns-in_err-params-clause-tables : goal.returns-in_err-params-clause-tables
returns-in_err-params-clause-tables g c = any_err _ (same_tables c.args.state.now)

pub returns-in-Err-clause-sound : goal.returns-in-Err-clause-sound
returns-in-Err-clause-sound g c = sound_put_back (g.V.Vault.holds c.answer_and_fill.new.vault) c.answer_and_fill.new.state c.args.state.now.timing c.in_ok-params.params c.answer_and_fill.new.state.regions (subst HasOctets (sym c.in_ok-params.ensures) c.requires.sound.params) c.answer_and_fill.ensures.sound

pub returns-in-Err-clause-tables : goal.returns-in-Err-clause-tables
returns-in-Err-clause-tables g c = record { timing = refl; params = c.in_ok-params.ensures; regions = c.answer_and_fill.ensures.regions c.requires.regions }

pub returns-in-Err-clause-params : goal.returns-in-Err-clause-params
returns-in-Err-clause-params g c = λ other. record { timing = refl; params = c.in_ok-params.ensures }
