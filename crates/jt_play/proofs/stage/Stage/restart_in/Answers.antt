use Rattle.std.proofs.Common.{◌≡◌, ap, inl, inr, refl, sym, ◌∙◌}
use Rattle.jt_terminal_rule.specs.declared.settings.Settings.{Settings}
use Rattle.jt_terminal_rule.specs.declared.state.Event.TheVariants.{Tick}
use Rattle.jt_play.specs.Holding.{phone_in}
use Rattle.jt_play.specs.Playing.{Play, meets, starts_again}
use Rattle.jt_play.proofs.Downward.{leads_both}
use Rattle.jt_play.proofs.stage.Stage.restart_in.Goals as goal

pub returns-in-Ok-begin-clause-leads : goal.returns-in-Ok-begin-clause-leads
returns-in-Ok-begin-clause-leads c = leads_both c.args.self.now.world c.begin.new.self.world c.tell.new.self.world c.begin.ensures.leads c.tell.ensures.leads

pub returns-in-Ok-begin-clause-whole : goal.returns-in-Ok-begin-clause-whole
returns-in-Ok-begin-clause-whole c done = c.tell.ensures.whole done
    ∙ (ap (λ (p : Play). meets p (Tick p.clock)) c.in-Ok-begin.ensures.ok
    ∙ ap (λ (s : Settings). starts_again c.args.self.now s) c.in-Ok.ensures)

-- the phone is that of these settings
pub returns-in-Ok-begin-clause-phone : goal.returns-in-Ok-begin-clause-phone
returns-in-Ok-begin-clause-phone c = inr (c.tell.ensures.phone ∙ (ap phone_in c.in-Ok-begin.ensures.ok ∙ ap (λ (s : Settings). s.phone) c.in-Ok.ensures))

pub returns-in-Ok-begin-clause-present : goal.returns-in-Ok-begin-clause-present
returns-in-Ok-begin-clause-present c = inr refl
