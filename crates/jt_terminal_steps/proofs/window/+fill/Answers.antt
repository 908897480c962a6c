use Rattle.std.proofs.Common.{◌-◌, Bool, subst}
use Rattle.std.proofs.lemmas.Result.{on_err_weaker, on_ok_weaker}
use Rattle.jt_terminal_steps.specs.Running.{Went}
use Rattle.jt_terminal_rule.specs.Rule.{send_next}
use Rattle.jt_terminal_steps.proofs.Chaining.{fill-more, filled_first, filled_cut, filled_more, filled_none, any_err}
use Rattle.jt_terminal_steps.specs.AfterError.{lists_of}
use Rattle.jt_terminal_steps.proofs.Leaving.{lists_filled, lists_none}
use Rattle.jt_terminal_steps.proofs.window.+fill.Goals as goal

pub returns-in_err-send_next-clause-err : goal.returns-in_err-send_next-clause-err
returns-in_err-send_next-clause-err g t c =
    let e = fill-more c.args.room c.args.state.now c.if-room-eq0.false in
    rw e (any_err _ (filled_first (c.args.room - 1) (send_next c.args.state.now) c.args.state.now _ _ c.in_err-send_next.ensures.err))

pub returns-then-branch-clause-ok : goal.returns-then-branch-clause-ok
returns-then-branch-clause-ok g t c =
    let e = fill-more c.args.room c.args.state.now c.if-room-eq0.false in
    let went = subst (λ (b : Bool). Went c.args.state.now.settings (send_next c.args.state.now) b c.args.state.now c.send_next.new.state (g.V.Vault.holds c.args.vault.now) (g.V.Vault.holds c.send_next.new.vault) c.args.out.now c.send_next.new.out) c.if-branch.true c.in_ok-send_next.ensures.ok in
    rw e (on_ok_weaker c.fill.result (filled_more c.args.state.now.settings (c.args.room - 1) (send_next c.args.state.now) c.args.state.now c.send_next.new.state _ _ _ _ _ _ _ c.in_ok-send_next.ensures.same.settings went) c.fill.ensures.ok)

pub returns-then-branch-clause-err : goal.returns-then-branch-clause-err
returns-then-branch-clause-err g t c =
    let e = fill-more c.args.room c.args.state.now c.if-room-eq0.false in
    let went = subst (λ (b : Bool). Went c.args.state.now.settings (send_next c.args.state.now) b c.args.state.now c.send_next.new.state (g.V.Vault.holds c.args.vault.now) (g.V.Vault.holds c.send_next.new.vault) c.args.out.now c.send_next.new.out) c.if-branch.true c.in_ok-send_next.ensures.ok in
    rw e (on_err_weaker c.fill.result (filled_cut c.args.state.now.settings (c.args.room - 1) (send_next c.args.state.now) c.args.state.now c.send_next.new.state _ _ _ _ _ went) c.fill.ensures.err)

pub returns-clause-ok : goal.returns-clause-ok
returns-clause-ok g t c =
    let e = fill-more c.args.room c.args.state.now c.if-room-eq0.false in
    let went = subst (λ (b : Bool). Went c.args.state.now.settings (send_next c.args.state.now) b c.args.state.now c.send_next.new.state (g.V.Vault.holds c.args.vault.now) (g.V.Vault.holds c.send_next.new.vault) c.args.out.now c.send_next.new.out) c.if-branch.false c.in_ok-send_next.ensures.ok in
    rw e (filled_none c.args.state.now.settings (c.args.room - 1) (send_next c.args.state.now) c.args.state.now c.send_next.new.state _ _ _ _ went)

pub returns-in_err-send_next-clause-lists : goal.returns-in_err-send_next-clause-lists
returns-in_err-send_next-clause-lists g t c =
    any_err _ (lists_none _ _ _ c.in_err-send_next.ensures.lists)

pub returns-then-branch-clause-lists : goal.returns-then-branch-clause-lists
returns-then-branch-clause-lists g t c =
    let e = fill-more c.args.room c.args.state.now c.if-room-eq0.false in
    let went = subst (λ (b : Bool). Went c.args.state.now.settings (send_next c.args.state.now) b c.args.state.now c.send_next.new.state (g.V.Vault.holds c.args.vault.now) (g.V.Vault.holds c.send_next.new.vault) c.args.out.now c.send_next.new.out) c.if-branch.true c.in_ok-send_next.ensures.ok in
    rw e (on_err_weaker c.fill.result (lists_filled c.args.state.now.settings (c.args.room - 1) c.args.state.now c.send_next.new.state _ _ _ _ (lists_of c.fill.new.state) went) c.fill.ensures.lists)
