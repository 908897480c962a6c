use Rattle.std.proofs.Common.{None, sym}
use Rattle.std.proofs.lemmas.Result.{on_err_weaker, on_ok_weaker}
use Rattle.jt_terminal_rule.specs.Answers.{answer_to}
use Rattle.jt_terminal_rule.specs.Rule.{answers, fill_window}
use Rattle.jt_terminal_steps.proofs.Keeping.{answers_settings, sound_answers, sound_tables}
use Rattle.jt_terminal_steps.proofs.Chaining.{any_err, cut_then, quiet_answers, ran_then}
use Rattle.jt_terminal_steps.specs.AfterError.{lists_of}
use Rattle.jt_terminal_steps.proofs.Leaving.{filled_params, filled_regions, left_lists, left_params, left_regions, lists_answers, lists_none, lists_then}
use Rattle.jt_terminal_steps.proofs.hearing.answer_and_fill.Goals as goal

pub fill_window-requires : goal.fill_window-requires
fill_window-requires g c = record {
  sound = sound_answers (g.V.Vault.holds c.args.vault.now) c.args.state.now c.answer.new.state (answer_to c.args.state.now c.args.header.now c.args.message.now) c.in_ok-answer.ensures.state c.in_ok-answer.ensures.octets c.requires.sound;
}

pub returns-clause-ok : goal.returns-clause-ok
returns-clause-ok g c =
    on_ok_weaker c.fill_window.result (ran_then c.args.state.now.settings (answers c.args.state.now (answer_to c.args.state.now c.args.header.now c.args.message.now)) fill_window c.answer.new.state _ _ _ _ _ _ _ None c.in_ok-answer.ensures.state
    (sym (quiet_answers c.args.state.now (answer_to c.args.state.now c.args.header.now c.args.message.now) (g.V.Vault.holds c.args.vault.now))) c.in_ok-answer.ensures.out (answers_settings c.args.state.now c.answer.new.state (answer_to c.args.state.now c.args.header.now c.args.message.now) c.in_ok-answer.ensures.state)) c.fill_window.ensures.ok

pub returns-clause-err : goal.returns-clause-err
returns-clause-err g c =
    on_err_weaker c.fill_window.result (cut_then (answers c.args.state.now (answer_to c.args.state.now c.args.header.now c.args.message.now)) fill_window c.answer.new.state (g.V.Vault.holds c.args.vault.now) (g.V.Vault.holds c.args.vault.now) _ c.in_ok-answer.ensures.state
    (sym (quiet_answers c.args.state.now (answer_to c.args.state.now c.args.header.now c.args.message.now) (g.V.Vault.holds c.args.vault.now)))) c.fill_window.ensures.err

pub returns-in_err-answer-clause-sound : goal.returns-in_err-answer-clause-sound
returns-in_err-answer-clause-sound g c = sound_tables (g.V.Vault.holds c.args.vault.now) c.args.state.now c.answer.new.state (answer_to c.args.state.now c.args.header.now c.args.message.now) c.in_err-answer.ensures.err c.in_err-answer.ensures.octets c.requires.sound

pub returns-clause-lists : goal.returns-clause-lists
returns-clause-lists g c =
    let a = answer_to c.args.state.now c.args.header.now c.args.message.now in
    on_err_weaker c.fill_window.result (lists_then (answers c.args.state.now a) fill_window c.args.state.now c.answer.new.state (lists_of c.fill_window.new.state) c.in_ok-answer.ensures.state (lists_answers c.args.state.now a c.requires.sound.order.mark c.requires.sound.order.next)) c.fill_window.ensures.lists

pub returns-clause-regions : goal.returns-clause-regions
returns-clause-regions g c = filled_regions c.args.state.now c.answer.new.state c.fill_window.new.state c.args.header.now c.args.message.now c.in_ok-answer.ensures.state c.fill_window.ensures.tables

pub returns-clause-params : goal.returns-clause-params
returns-clause-params g c = filled_params c.args.state.now c.answer.new.state c.fill_window.new.state c.args.header.now c.args.message.now c.in_ok-answer.ensures.state c.fill_window.ensures.tables

pub returns-in_err-answer-clause-lists : goal.returns-in_err-answer-clause-lists
returns-in_err-answer-clause-lists g c =
    any_err _ (lists_none _ _ _ (left_lists c.args.state.now c.answer.new.state (answer_to c.args.state.now c.args.header.now c.args.message.now) c.in_err-answer.ensures.err))

pub returns-in_err-answer-clause-regions : goal.returns-in_err-answer-clause-regions
returns-in_err-answer-clause-regions g c = left_regions c.args.state.now c.answer.new.state c.args.header.now c.args.message.now c.in_err-answer.ensures.err

pub returns-in_err-answer-clause-params : goal.returns-in_err-answer-clause-params
returns-in_err-answer-clause-params g c = left_params c.args.state.now c.answer.new.state c.args.header.now c.args.message.now c.in_err-answer.ensures.err
