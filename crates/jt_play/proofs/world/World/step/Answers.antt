use Rattle.std.proofs.Common.{◌≡◌, ◌↔◌, true, false, ap, sym, ◌∙◌, subst}
use Rattle.std.specs.Prelude.{Err, IfOk, OnOk}
use Rattle.jt_value.specs.declared.limits.TheConstants.{FIX_LIMIT}
use Rattle.jt_value.specs.declared.phone.Edition.{Edition}
use Rattle.jt_play.specs.declared.error.WorldError.TheVariants as refused
use Rattle.jt_play.specs.Scripts.{Names, Scene, TakesEdition, TakesPhone, edition_by}
use Rattle.jt_play.specs.Holding.{phone_in, recorded_in}
use Rattle.jt_play.specs.Laws.{RecordsAtMost}
use Rattle.jt_play.specs.Playing.{Play, finds_full, is_opened}
use Rattle.jt_play.proofs.Scripting.{step_ok, step_played, step_scripted}
use Rattle.jt_play.proofs.Scenes.{at_full_is, named_not_full, no_line_is, own_history, refusals, same_refused, scene_on}
use Rattle.jt_play.proofs.Worlds.{on_ok}
use Rattle.jt_play.proofs.world.World.step.Goals as goal

pub step-done-requires-clause-own : goal.step-done-requires-clause-own
step-done-requires-clause-own c = own_history c.law_world.ensures.phone c.self.inside.stage c.self.inside.identity c.self.invariant

pub invariant_of-self : goal.invariant_of-self
invariant_of-self c = scene_on c.self.inside.stage c.step-done.new.self c.self.inside.identity c.self.invariant c.step-done.ensures.leads

pub returns-clause-ok : goal.returns-clause-ok
returns-clause-ok c by =
    let s = c.self.inside in
    step_ok _ (record { play = s.stage; identity = s.identity; edition = s.edition }) _ c.self.view_is c.args.event c.step-done.new.self c.step-done.result c.answer.result c.law_rule.ensures.settings c.law_run.ensures c.self.invariant
    c.step-done.ensures.ok c.answer.ensures.done by

pub returns-clause-played : goal.returns-clause-played
returns-clause-played c by =
    let s = c.self.inside in
    step_played _ (record { play = s.stage; identity = s.identity; edition = s.edition }) _ c.self.view_is c.args.event c.step-done.new.self c.step-done.result c.answer.result c.law_rule.ensures.settings c.law_run.ensures c.self.invariant
    c.step-done.ensures.ok c.answer.ensures.done by

pub returns-clause-scripted : goal.returns-clause-scripted
returns-clause-scripted c by =
    let s = c.self.inside in
    step_scripted _ (record { play = s.stage; identity = s.identity; edition = s.edition }) _ c.self.view_is c.args.event c.step-done.new.self c.step-done.result c.answer.result c.law_rule.ensures.settings c.law_run.ensures c.self.invariant
    c.step-done.ensures.ok c.answer.ensures.done c.step-done.new.edition c.step-done.ensures.fix c.step-done.ensures.next by

pub returns-clause-no_line : goal.returns-clause-no_line
returns-clause-no_line c line =
    let both = no_line_is c.self.inside.stage.world c.args.event c.step-done.result c.step-done.ensures.no_line c.step-done.ensures.number line in
    let same = c.answer.ensures.no_line line in
    subst (λ (v : Scene). (c.answer.result ≡ Err (refused.NoLine line)) ↔ (Names c.args.event line × (is_opened v.play.world line ≡ false))) c.self.view_is (λ a. both.0 (same.0 a), λ b. same.1 (both.1 b))

pub returns-clause-full : goal.returns-clause-full
returns-clause-full c limit is =
    subst (λ (v : Scene). (limit ≡ FIX_LIMIT) × (finds_full FIX_LIMIT v.play c.args.event ≡ true)) c.self.view_is (c.step-done.ensures.full limit ((c.answer.ensures.full limit).0 is))

pub returns-clause-at_full : goal.returns-clause-at_full
returns-clause-at_full c found =
    let p = c.self.inside.stage in
    at_full_is refused.NoLine refused.Full refused.Memory FIX_LIMIT (finds_full FIX_LIMIT p c.args.event) c.answer.result refusals
    (on_ok c.answer.result (λ is. subst (λ r. IfOk r (λ done. finds_full FIX_LIMIT p c.args.event ≡ false)) is c.step-done.ensures.room) c.answer.ensures.done)
    (λ line is. named_not_full FIX_LIMIT p c.args.event line (c.step-done.ensures.number line ((c.answer.ensures.no_line line).0 is)))
    (λ limit is. (c.step-done.ensures.full limit ((c.answer.ensures.full limit).0 is)).0)
    (subst (λ (v : Scene). finds_full FIX_LIMIT v.play c.args.event ≡ true) (sym c.self.view_is) found)

pub returns-clause-same : goal.returns-clause-same
returns-clause-same c error is other =
    let s = c.self.inside in
    let play = same_refused c.answer.result c.step-done.result (c.step-done.new.self ≡ s.stage) c.answer.ensures.no_line c.answer.ensures.full c.step-done.ensures.same error is other in
    let edition = same_refused c.answer.result c.step-done.result (c.step-done.new.edition ≡ s.edition) c.answer.ensures.no_line c.answer.ensures.full c.step-done.ensures.edition error is other in
    ap (λ (p : Play). record { play = p; identity = s.identity; edition = c.step-done.new.edition }) play ∙ (ap (λ (e : Edition). record { play = s.stage; identity = s.identity; edition = e }) edition ∙ c.self.view_is)

pub returns-clause-recorded : goal.returns-clause-recorded
returns-clause-recorded c = subst (λ (v : Scene). RecordsAtMost c.args.event (recorded_in v.play) (recorded_in c.step-done.new.self)) c.self.view_is c.step-done.ensures.recorded

pub returns-clause-edition : goal.returns-clause-edition
returns-clause-edition c = subst (λ (v : Scene). OnOk c.answer.result (c.step-done.new.edition ≡ edition_by v.edition c.args.event)) c.self.view_is (on_ok c.answer.result c.step-done.ensures.next c.answer.ensures.done)

pub returns-clause-present : goal.returns-clause-present
returns-clause-present c = subst (λ (v : Scene). TakesEdition c.args.event v.edition c.step-done.new.edition) c.self.view_is c.step-done.ensures.present

pub returns-clause-phone : goal.returns-clause-phone
returns-clause-phone c = subst (λ (v : Scene). TakesPhone v.identity v.edition c.args.event (phone_in v.play) (phone_in c.step-done.new.self)) c.self.view_is c.step-done.ensures.phone
