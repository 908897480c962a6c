use Rattle.std.proofs.Common.{◌≡◌, subst}
use Rattle.jt_octets.specs.Reaching.{Leads}
use Rattle.jt_play.specs.Holding.{past_of, play_of, told_of}
use Rattle.jt_play.specs.Playing.{Play}
use Rattle.jt_play.proofs.Noting.{noted_clock, noted_leads, noted_running}
use Rattle.jt_play.proofs.stage.Stage.record.Goals as goal

pub invariant_of-self : goal.invariant_of-self
invariant_of-self c =
    let s = c.self.inside in
    let fix = c.as_slice-octets.ensures.fix in
    let e = c.note_fix.ensures in (
      noted_running s.terminal c.note_fix.new.self s.hub s.lines.items (past_of s.past.items) (told_of s.told.items) s.clock c.args.fix.now fix c.self.invariant.0 c.note_fix.result e.ok e.err e.vault e.limit,
      c.self.invariant.1,
      noted_clock s.terminal c.note_fix.new.self s.hub s.lines.items (past_of s.past.items) (told_of s.told.items) s.clock c.args.fix.now fix c.self.invariant.0 c.note_fix.result e.ok e.err e.vault c.self.invariant.2,
    )

pub returns-clause-leads : goal.returns-clause-leads
returns-clause-leads c =
    let s = c.self.inside in
    let fix = c.as_slice-octets.ensures.fix in
    let e = c.note_fix.ensures in
    subst (λ (p : Play). Leads p.world (play_of c.note_fix.new.self s.hub s.lines.items (past_of s.past.items) (told_of s.told.items) s.clock).world) c.self.view_is
    (noted_leads s.terminal c.note_fix.new.self s.hub s.lines.items (past_of s.past.items) (told_of s.told.items) s.clock c.args.fix.now fix c.self.invariant.0 c.note_fix.result e.ok e.err e.vault)
