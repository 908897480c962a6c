use Rattle.std.proofs.Common.{sym, subst}
use Rattle.std.proofs.lemmas.Bool.{false≢true}
use Rattle.jt_value.specs.declared.limits.TheConstants.{ROW_LIMIT}
use Rattle.jt_octets.specs.Reaching.{Reached}
use Rattle.jt_terminal_rule.specs.declared.settings.Settings.{Settings}
use Rattle.jt_play.specs.Holding.{IsNewTerminal}
use Rattle.jt_play.specs.Playing.{Play}
use Rattle.jt_play.proofs.Starting.{first_reached, new_clock, new_is, new_running}
use Rattle.jt_play.proofs.stage.Stage.new.Goals as goal

pub invariant_of-result : goal.invariant_of-result
invariant_of-result c =
    let s = c.args.identity.now.e2013 in
    let t = c.in_ok-terminal.terminal in
    let hub = c.in_ok-hub.hub in
    let new = subst (λ (x : Settings). IsNewTerminal x t) c.in_ok-settings.ensures c.in_ok-terminal.ensures.new in (
      rw (c.new.ensures.items) (new_running s c.args.fleet c.args.secret t hub new c.in_ok-hub.ensures c.in_ok-terminal.ensures.sound),
      λ on. absurd (false≢true on),
      new_clock s c.args.fleet c.args.secret t hub new c.in_ok-hub.ensures,
    )

pub returns-clause-new : goal.returns-clause-new
returns-clause-new c =
    let new = subst (λ (x : Settings). IsNewTerminal x c.in_ok-terminal.terminal) c.in_ok-settings.ensures c.in_ok-terminal.ensures.new in
    new_is c.args.identity.now.e2013 c.args.fleet c.args.secret c.in_ok-terminal.terminal c.in_ok-hub.hub new c.in_ok-hub.ensures c.new.result.items c.new-3.result.items c.new-4.result.items c.new.ensures.items c.new-3.ensures.items c.new-4.ensures.items

pub returns-clause-reached : goal.returns-clause-reached
returns-clause-reached c =
    let s = c.args.identity.now.e2013 in
    let new = subst (λ (x : Settings). IsNewTerminal x c.in_ok-terminal.terminal) c.in_ok-settings.ensures c.in_ok-terminal.ensures.new in
    subst (λ (p : Play). Reached p.world) (sym (new_is s c.args.fleet c.args.secret c.in_ok-terminal.terminal c.in_ok-hub.hub new c.in_ok-hub.ensures c.new.result.items c.new-3.result.items c.new-4.result.items c.new.ensures.items c.new-3.ensures.items c.new-4.ensures.items))
    (first_reached s (record { fleet = c.args.fleet; secret = c.args.secret; limit = ROW_LIMIT }) c.requires.good)
