use Rattle.std.proofs.Common.{arith, refl, sym, subst}
use Rattle.jt_terminal_rule.specs.Machines.{is_up}
use Rattle.jt_octets.specs.World.{newest, taken_of}
use Rattle.jt_order_terminal_steps.specs.Holding.{BothTell}
use Rattle.jt_order_terminal_steps.specs.Standing.{TerminalStandsIn}
use Rattle.jt_order_terminal_steps.proofs.Calling.{fed_in_part, fed_whole, up_behind}
use Rattle.jt_order_terminal_steps.proofs.calls.feed_octets.Goals as goal

pub returns-in-Ok-clause-ok : goal.returns-in-Ok-clause-ok
returns-in-Ok-clause-ok g c w reached next up told =
    let e = c.feed.ensures in
    let seen = taken_of (newest w.base).down in
    let stands = told.fact.hears up in
    fed_whole g.V.Vault.holds g.G.OrderLog.holds w c.args.terminal.now c.feed.new.self told reached c.args.octets.now (λ i. omega (arith, c.type_inv.octets i)) next up e.same e.stays_sound e.ledger c.law_order_terminal.ensures.feed
    c.in-Ok.actions.frames c.in-Ok.actions.told c.in-Ok.actions.end (c.in-Ok.ensures.state seen stands) (c.in-Ok.ensures.actions seen stands) (c.in-Ok.ensures.stands seen stands up)

pub returns-in-Err-clause-err : goal.returns-in-Err-clause-err
returns-in-Err-clause-err g c w reached next up told =
    let e = c.feed.ensures in
    let seen = taken_of (newest w.base).down in
    let stands = told.fact.hears up in
    fed_in_part g.V.Vault.holds g.G.OrderLog.holds w c.args.terminal.now c.feed.new.self told reached c.args.octets.now (λ i. omega (arith, c.type_inv.octets i)) next up e.same e.stays_sound e.ledger c.law_order_terminal.ensures.failed_feed
    (c.in-Err.ensures.fails seen stands) c.in-Err.ensures.down

pub returns-in-Ok-clause-up : goal.returns-in-Ok-clause-up
returns-in-Ok-clause-up g c seen stands on =
    let t = c.args.terminal.now in
    up_behind (is_up t.terminal.state.phase) t.terminal.state t.ledger seen c.args.octets.now c.feed.new.self.terminal.state c.in-Ok.actions.end refl on (c.in-Ok.ensures.state seen stands).0 (c.in-Ok.ensures.actions seen stands).2

pub returns-in-Ok-clause-idle : goal.returns-in-Ok-clause-idle
returns-in-Ok-clause-idle g c w idle told = subst (λ t. BothTell g.V.Vault.holds g.G.OrderLog.holds t (TerminalStandsIn w)) (sym (c.feed.ensures.idle idle).1) told

pub returns-in-Err-clause-idle : goal.returns-in-Err-clause-idle
returns-in-Err-clause-idle g c w idle told = subst (λ t. BothTell g.V.Vault.holds g.G.OrderLog.holds t (TerminalStandsIn w)) (sym (c.feed.ensures.idle idle).1) told
