use Rattle.std.proofs.Common.{refl}
use Rattle.std.proofs.lemmas.Result.{on_err_weaker, on_ok_weaker}
use Rattle.jt_terminal_steps.proofs.Chaining.{accepted_ran, accepted_cut}
use Rattle.jt_terminal_steps.specs.AfterError.{lists_of}
use Rattle.jt_terminal_steps.proofs.Leaving.{lists_took}
use Rattle.jt_terminal_steps.proofs.hearing.accept_oldest.Goals as goal

pub returns-clause-ok : goal.returns-clause-ok
returns-clause-ok g c =
    on_ok_weaker c.fill_window.result (accepted_ran c.args.state.now c.args.state.now.units c.accept.new.state _ _ _ _ _ _ _ c.requires.some c.in_ok-accept.ensures.ok.0 c.in_ok-accept.ensures.ok.1 refl c.in_ok-accept.ensures.same.settings) c.fill_window.ensures.ok

pub returns-clause-err : goal.returns-clause-err
returns-clause-err g c =
    on_err_weaker c.fill_window.result (accepted_cut c.args.state.now c.args.state.now.units c.accept.new.state _ _ _ c.requires.some c.in_ok-accept.ensures.ok.0 c.in_ok-accept.ensures.ok.1) c.fill_window.ensures.err

pub returns-clause-lists : goal.returns-clause-lists
returns-clause-lists g c =
    on_err_weaker c.fill_window.result (lists_took c.args.state.now c.args.state.now.units c.accept.new.state (lists_of c.fill_window.new.state) refl c.requires.some c.in_ok-accept.ensures.ok.0) c.fill_window.ensures.lists
