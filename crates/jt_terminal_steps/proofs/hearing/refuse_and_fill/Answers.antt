use Rattle.std.proofs.Common.{None, refl, sym}
use Rattle.std.proofs.lemmas.Result.{on_err_weaker, on_ok_weaker}
use Rattle.jt_terminal_rule.specs.Answers.{answer_to_refused}
use Rattle.jt_terminal_rule.specs.Rule.{answers, fill_window}
use Rattle.jt_terminal_steps.proofs.Keeping.{answers_settings, sound_answers_only}
use Rattle.jt_terminal_steps.proofs.Chaining.{cut_then, quiet_answers, ran_then}
use Rattle.jt_terminal_steps.specs.AfterError.{lists_of}
use Rattle.jt_terminal_steps.proofs.Leaving.{lists_answers, lists_then}
use Rattle.jt_terminal_steps.proofs.hearing.refuse_and_fill.Goals as goal

pub fill_window-requires : goal.fill_window-requires
fill_window-requires g c = record {
  sound = sound_answers_only (g.V.Vault.holds c.args.vault.now) c.args.state.now c.answer_refused.new.state (answer_to_refused c.args.state.now c.args.header.now) c.in_ok-answer_refused.ensures.state refl c.requires.sound;
}

pub returns-clause-ok : goal.returns-clause-ok
returns-clause-ok g c =
    on_ok_weaker c.fill_window.result (ran_then c.args.state.now.settings (answers c.args.state.now (answer_to_refused c.args.state.now c.args.header.now)) fill_window c.answer_refused.new.state _ _ _ _ _ _ _ None c.in_ok-answer_refused.ensures.state
    (sym (quiet_answers c.args.state.now (answer_to_refused c.args.state.now c.args.header.now) (g.V.Vault.holds c.args.vault.now))) c.in_ok-answer_refused.ensures.out (answers_settings c.args.state.now c.answer_refused.new.state (answer_to_refused c.args.state.now c.args.header.now) c.in_ok-answer_refused.ensures.state)) c.fill_window.ensures.ok

pub returns-clause-err : goal.returns-clause-err
returns-clause-err g c =
    on_err_weaker c.fill_window.result (cut_then (answers c.args.state.now (answer_to_refused c.args.state.now c.args.header.now)) fill_window c.answer_refused.new.state (g.V.Vault.holds c.args.vault.now) (g.V.Vault.holds c.args.vault.now) _ c.in_ok-answer_refused.ensures.state
    (sym (quiet_answers c.args.state.now (answer_to_refused c.args.state.now c.args.header.now) (g.V.Vault.holds c.args.vault.now)))) c.fill_window.ensures.err

pub returns-clause-lists : goal.returns-clause-lists
returns-clause-lists g c =
    let a = answer_to_refused c.args.state.now c.args.header.now in
    on_err_weaker c.fill_window.result (lists_then (answers c.args.state.now a) fill_window c.args.state.now c.answer_refused.new.state (lists_of c.fill_window.new.state) c.in_ok-answer_refused.ensures.state (lists_answers c.args.state.now a c.requires.sound.order.mark c.requires.sound.order.next)) c.fill_window.ensures.lists
