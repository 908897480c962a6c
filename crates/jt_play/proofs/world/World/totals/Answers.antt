use Rattle.std.proofs.Common.{◌≡◌, subst}
use Rattle.jt_value.specs.Sameness.{key_of}
use Rattle.jt_value.specs.declared.phone.Edition.TheVariants.{E2013}
use Rattle.jt_event_lines.specs.declared.totals.WorldTotals.{WorldTotals}
use Rattle.jt_play.specs.Scripts.{Scene, totals_of}
use Rattle.jt_play.proofs.Tallies.{totals_are}
use Rattle.jt_play.proofs.world.World.totals.Goals as goal

pub returns : goal.returns
returns c =
    let s = c.self.inside in
    let counts = c.counts-recorded in
    let tally = c.tally-rows in
    subst (λ (v : Scene). ◌≡◌ {A = WorldTotals} (record { recorded = counts.result.0; accepted = counts.result.1; rows = tally.result.rows; stored = tally.result.fixes }) (totals_of v.play)) c.self.view_is
    (totals_are s.stage (key_of s.identity.e2013.phone) counts.result.0 counts.result.1 tally.result (c.self.invariant.same E2013) c.self.invariant.reached counts.ensures.counts.0 counts.ensures.counts.1 tally.ensures)
