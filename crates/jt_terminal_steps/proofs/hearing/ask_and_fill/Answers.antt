use Rattle.std.proofs.Common.{None, sym}
use Rattle.std.proofs.lemmas.Result.{on_err_weaker, on_ok_weaker}
use Rattle.jt_terminal_rule.specs.Answers.{answer_to_lack}
use Rattle.jt_terminal_rule.specs.Rule.{answers, fill_window}
use Rattle.jt_terminal_steps.proofs.Keeping.{answers_settings, lack_params, sound_answers_only}
use Rattle.jt_terminal_steps.proofs.Chaining.{cut_then, quiet_answers, ran_then}
use Rattle.jt_terminal_steps.specs.AfterError.{lists_of}
use Rattle.jt_terminal_steps.proofs.Leaving.{lack_tables, lists_answers, lists_then}
use Rattle.jt_terminal_steps.proofs.hearing.ask_and_fill.Goals as goal

pub fill_window-requires : goal.fill_window-requires
fill_window-requires g c = record {
  sound = sound_answers_only (g.V.Vault.holds c.args.vault.now) c.args.state.now c.answer_lack.new.state (answer_to_lack c.args.state.now c.args.state.now.settings.phone.edition c.args.first c.args.numbers) c.in_ok-answer_lack.ensures.state (lack_params c.args.state.now c.args.state.now.settings.phone.edition c.args.first c.args.numbers) c.requires.sound;
}

pub returns-clause-ok : goal.returns-clause-ok
returns-clause-ok g c =
    on_ok_weaker c.fill_window.result (ran_then c.args.state.now.settings (answers c.args.state.now (answer_to_lack c.args.state.now c.args.state.now.settings.phone.edition c.args.first c.args.numbers)) fill_window c.answer_lack.new.state _ _ _ _ _ _ _ None c.in_ok-answer_lack.ensures.state
    (sym (quiet_answers c.args.state.now (answer_to_lack c.args.state.now c.args.state.now.settings.phone.edition c.args.first c.args.numbers) (g.V.Vault.holds c.args.vault.now))) c.in_ok-answer_lack.ensures.out (answers_settings c.args.state.now c.answer_lack.new.state (answer_to_lack c.args.state.now c.args.state.now.settings.phone.edition c.args.first c.args.numbers) c.in_ok-answer_lack.ensures.state)) c.fill_window.ensures.ok

pub returns-clause-err : goal.returns-clause-err
returns-clause-err g c =
    on_err_weaker c.fill_window.result (cut_then (answers c.args.state.now (answer_to_lack c.args.state.now c.args.state.now.settings.phone.edition c.args.first c.args.numbers)) fill_window c.answer_lack.new.state (g.V.Vault.holds c.args.vault.now) (g.V.Vault.holds c.args.vault.now) _ c.in_ok-answer_lack.ensures.state
    (sym (quiet_answers c.args.state.now (answer_to_lack c.args.state.now c.args.state.now.settings.phone.edition c.args.first c.args.numbers) (g.V.Vault.holds c.args.vault.now)))) c.fill_window.ensures.err

pub returns-clause-lists : goal.returns-clause-lists
returns-clause-lists g c =
    let a = answer_to_lack c.args.state.now c.args.state.now.settings.phone.edition c.args.first c.args.numbers in
    on_err_weaker c.fill_window.result (lists_then (answers c.args.state.now a) fill_window c.args.state.now c.answer_lack.new.state (lists_of c.fill_window.new.state) c.in_ok-answer_lack.ensures.state (lists_answers c.args.state.now a c.requires.sound.order.mark c.requires.sound.order.next)) c.fill_window.ensures.lists

pub returns-clause-tables : goal.returns-clause-tables
returns-clause-tables g c = lack_tables c.args.state.now c.answer_lack.new.state c.fill_window.new.state c.args.state.now.settings.phone.edition c.args.first c.args.numbers c.in_ok-answer_lack.ensures.state c.fill_window.ensures.tables
