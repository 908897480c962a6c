use Rattle.std.proofs.Common.{ℕ, ◌≡◌, ap, sym, ◌∙◌, subst}
use Rattle.jt_play.specs.Scripts.{IsPlayed, settings_in}
use Rattle.jt_script.specs.declared.world_event.WorldEvent.{WorldEvent}
use Rattle.jt_play.proofs.Running.{ok_true, runs_is}
use Rattle.jt_play.specs.Playing.{cuts, play_after}
use Rattle.jt_play.proofs.stage.Stage.step.Goals as goal

pub returns-clause-ok : goal.returns-clause-ok
returns-clause-ok c played done =
    let p = c.args.self.now in
    runs_is p c.run.new.self (c.run.ensures.whole (ok_true c.run.result done)) (subst (λ (e : WorldEvent). IsPlayed c.args.identity.now c.args.edition.now p e) c.in-Run.is played)
    ∙ ap (play_after (settings_in c.args.identity.now) p) (sym c.in-Run.is)

pub returns-in-Some-place_of-clause-ok : goal.returns-in-Some-place_of-clause-ok
returns-in-Some-place_of-clause-ok c played done =
    let p = c.args.self.now in
    c.cut.ensures.whole
    ∙ (ap (λ (place : ℕ). record p { world = cuts p.world place }) c.in-Some-place_of.ensures.place
    ∙ ap (play_after (settings_in c.args.identity.now) p) (sym c.in-Cut.is))
