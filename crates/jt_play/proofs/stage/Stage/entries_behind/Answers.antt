use Rattle.std.proofs.Common.{◌≡◌, ◌-◌, List, length, take, drop, ap, sym, ◌∙◌, subst}
use Rattle.std.specs.Prelude.{IfOk}
use Rattle.jt_platform.specs.declared.request.Entry.{Entry}
use Rattle.jt_play.specs.Playing.{Play, behind}
use Rattle.jt_play.proofs.Scenes.{behind_is, copied_is, rest_is}
use Rattle.jt_play.proofs.stage.Stage.entries_behind.Goals as goal

pub returns : goal.returns
returns c =
    let s = c.self.inside in
    copied_is c.copies.result (take (length c.history-all.result.now - c.args.mark) (drop c.args.mark c.history-all.result.now)) (behind c.args.mark c.args.self.now.world.history) c.copies.ensures
    (rest_is c.history-all.result.now c.args.mark ∙ (ap (drop c.args.mark) c.history-all.ensures.entries ∙ (sym (behind_is s.hub.history c.args.mark) ∙ ap (λ (p : Play). behind c.args.mark p.world.history) c.self.view_is)))
