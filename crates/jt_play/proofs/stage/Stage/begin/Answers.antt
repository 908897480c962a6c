use Rattle.std.proofs.Common.{◌≡◌, List, ℕ, ap, subst, sym, ◌∙◌}
use Rattle.jt_value.specs.Sameness.{key_of}
use Rattle.jt_octets.specs.Reaching.{Leads}
use Rattle.jt_play.specs.Holding.{past_of, play_of, recorded_in, told_of}
use Rattle.std.specs.Prelude.{OnOk}
use Rattle.jt_play.specs.Playing.{Play, begins}
use Rattle.jt_play.proofs.Restarting.{begun_clock, begun_leads, begun_running, begun_whole}
use Rattle.jt_store.specs.Vaults.{Held}
use Rattle.jt_play.proofs.Acting.{some_held}
use Rattle.jt_play.proofs.stage.Stage.begin.Goals as goal

pub invariant_of-self : goal.invariant_of-self
invariant_of-self c =
    let s = c.self.inside in
    let e = c.restart.ensures in
    let own = subst (λ (p : Play). key_of c.args.settings.phone ≡ key_of p.world.terminal.phone) (sym c.self.view_is) c.requires.own in (
      begun_running c.law_rule.ensures.start s.terminal c.restart.new.self s.hub s.lines.items (past_of s.past.items) (told_of s.told.items) s.clock c.self.invariant.0 c.args.settings c.requires.good own e.holds c.restart.result e.ok e.err e.sound e.limit,
      c.self.invariant.1,
      begun_clock c.law_rule.ensures.start s.terminal c.restart.new.self s.hub s.lines.items (past_of s.past.items) (told_of s.told.items) s.clock c.self.invariant.0 c.args.settings c.requires.good own e.holds c.restart.result e.ok e.err c.self.invariant.2,
    )

pub returns-clause-leads : goal.returns-clause-leads
returns-clause-leads c =
    let s = c.self.inside in
    let e = c.restart.ensures in
    let own = subst (λ (p : Play). key_of c.args.settings.phone ≡ key_of p.world.terminal.phone) (sym c.self.view_is) c.requires.own in
    subst (λ (p : Play). Leads p.world (play_of c.restart.new.self s.hub s.lines.items (past_of s.past.items) (told_of s.told.items) s.clock).world) c.self.view_is
    (begun_leads c.law_rule.ensures.start s.terminal c.restart.new.self s.hub s.lines.items (past_of s.past.items) (told_of s.told.items) s.clock c.self.invariant.0 c.args.settings c.requires.good own e.holds c.restart.result e.ok e.err)

pub returns-clause-ok : goal.returns-clause-ok
returns-clause-ok c =
    let s = c.self.inside in
    let e = c.restart.ensures in
    let own = subst (λ (p : Play). key_of c.args.settings.phone ≡ key_of p.world.terminal.phone) (sym c.self.view_is) c.requires.own in
    subst (λ (p : Play). OnOk c.restart.result (play_of c.restart.new.self s.hub s.lines.items (past_of s.past.items) (told_of s.told.items) s.clock ≡ begins p c.args.settings)) c.self.view_is
    (begun_whole c.law_rule.ensures.start s.terminal c.restart.new.self s.hub s.lines.items (past_of s.past.items) (told_of s.told.items) s.clock c.self.invariant.0 c.args.settings c.requires.good own e.holds c.restart.result e.ok)

pub returns-clause-recorded : goal.returns-clause-recorded
returns-clause-recorded c =
    ap (λ (h : Held). h.recorded) (some_held c.restart.new.self.vault.held c.self.inside.terminal.vault.held c.restart.ensures.holds) ∙ ap recorded_in c.self.view_is
