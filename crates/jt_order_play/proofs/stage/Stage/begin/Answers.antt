use Rattle.std.proofs.Common.{◌≡◌, sym, ◌∙◌, subst}
use Rattle.jt_value.specs.Sameness.{key_of}
use Rattle.jt_play.specs.Holding.{past_of}
use Rattle.jt_order_octets.specs.Reaching.{Leads}
use Rattle.jt_order_play.specs.Holding.{order_play_of, told_places}
use Rattle.jt_order_play.specs.Playing.{OrderPlay, begins}
use Rattle.jt_order_play.proofs.Restarting.{begun_leads, begun_stage, begun_whole, failed_leads, failed_stage, failed_whole}
use Rattle.jt_order_play.proofs.stage.Stage.begin.Goals as goal

-- it started
pub invariant_of-self : goal.invariant_of-self
invariant_of-self c =
    let s = c.self.inside in
    let e = c.restart.ensures in
    let own = subst (λ (p : OrderPlay). key_of c.args.settings.phone ≡ key_of p.world.base.terminal.phone) (sym c.self.view_is) c.requires.own in
    begun_stage s.terminal c.restart.new.self s.hears s.hub s.book.book s.issued s.lines.items (past_of s.past.items) (told_places s.told.items) s.clock c.self.invariant e.holds.0 e.holds.1 c.law_rule.ensures.start e.ledger c.args.settings c.requires.good own c.in-Ok.ensures.ok
    c.in-Ok.ensures.sound e.limit

pub returns-in-Ok-clause-leads : goal.returns-in-Ok-clause-leads
returns-in-Ok-clause-leads c =
    let s = c.self.inside in
    let e = c.restart.ensures in
    let past = past_of s.past.items in
    let told = told_places s.told.items in
    let own = subst (λ (p : OrderPlay). key_of c.args.settings.phone ≡ key_of p.world.base.terminal.phone) (sym c.self.view_is) c.requires.own in
    subst (λ (p : OrderPlay). Leads p.world (order_play_of c.restart.new.self s.hub s.book.book s.lines.items past told s.clock).world) c.self.view_is
    (begun_leads s.terminal c.restart.new.self s.hears s.hub s.book.book s.issued s.lines.items past told s.clock c.self.invariant e.holds.0 e.holds.1 c.law_rule.ensures.start e.ledger c.args.settings c.requires.good own c.in-Ok.ensures.ok)

pub returns-in-Ok-clause-ok : goal.returns-in-Ok-clause-ok
returns-in-Ok-clause-ok c =
    let s = c.self.inside in
    let e = c.restart.ensures in
    let past = past_of s.past.items in
    let told = told_places s.told.items in
    let own = subst (λ (p : OrderPlay). key_of c.args.settings.phone ≡ key_of p.world.base.terminal.phone) (sym c.self.view_is) c.requires.own in
    subst (λ (p : OrderPlay). order_play_of c.restart.new.self s.hub s.book.book s.lines.items past told s.clock ≡ begins p c.args.settings) c.self.view_is
    (begun_whole s.terminal c.restart.new.self s.hears s.hub s.book.book s.issued s.lines.items past told s.clock c.self.invariant e.holds.0 e.holds.1 c.law_rule.ensures.start e.ledger c.args.settings c.requires.good own c.in-Ok.ensures.ok)

-- it did not
pub invariant_of-self-in-Err : goal.invariant_of-self-in-Err
invariant_of-self-in-Err c =
    let s = c.self.inside in
    let e = c.restart.ensures in
    let err = c.in-Err.ensures.err in
    failed_stage s.terminal c.restart.new.self s.hears s.hub s.book.book s.issued s.lines.items (past_of s.past.items) (told_places s.told.items) s.clock c.self.invariant e.holds.0 e.holds.1 err.0 err.1 err.2 e.ledger e.limit

pub returns-in-Err-clause-leads : goal.returns-in-Err-clause-leads
returns-in-Err-clause-leads c =
    let s = c.self.inside in
    let e = c.restart.ensures in
    let past = past_of s.past.items in
    let told = told_places s.told.items in
    subst (λ (p : OrderPlay). Leads p.world (order_play_of c.restart.new.self s.hub s.book.book s.lines.items past told s.clock).world) c.self.view_is
    (failed_leads s.terminal c.restart.new.self s.hears s.hub s.book.book s.issued s.lines.items past told s.clock c.self.invariant e.holds.0 e.holds.1 c.in-Err.ensures.err.0 c.in-Err.ensures.err.1)

pub returns-in-Err-clause-err : goal.returns-in-Err-clause-err
returns-in-Err-clause-err c =
    let s = c.self.inside in
    let e = c.restart.ensures in
    failed_whole s.terminal c.restart.new.self s.hears s.hub s.book.book s.issued s.lines.items (past_of s.past.items) (told_places s.told.items) s.clock c.self.invariant e.holds.0 e.holds.1 c.in-Err.ensures.err.0 c.in-Err.ensures.err.1 ∙ c.self.view_is
