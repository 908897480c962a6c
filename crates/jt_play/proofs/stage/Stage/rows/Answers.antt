use Rattle.std.proofs.Common.{◌≡◌, List, ℕ, ap, sym, ◌∙◌, refl, subst}
use Rattle.std.proofs.lemmas.Slice.Eq.{bytes_eq-Decides}
use Rattle.jt_value.specs.Sameness.{key_of}
use Rattle.jt_store.specs.Memory.{KeeperState, tables_of}
use Rattle.jt_store.specs.Verdicts.{Shelf}
use Rattle.jt_platform.specs.Laws.{AreOf}
use Rattle.jt_play.specs.Playing.{Play}
use Rattle.jt_play.proofs.Platforms.{shelf_is}
use Rattle.jt_play.proofs.stage.Stage.rows.Goals as goal

pub returns : goal.returns
returns c =
    let s = c.self.inside in
    let own = subst (λ (p : Play). AreOf (key_of p.world.terminal.phone) p.world.history) (sym c.self.view_is) c.requires.own in
    let same = c.requires.same ∙ ap (λ (p : Play). key_of p.world.terminal.phone) (sym c.self.view_is) in
    let shelf = shelf_is c.law_histories.ensures (λ key. (bytes_eq-Decides key key).1 refl) s.terminal s.hub s.lines.items c.self.invariant.0 own s.hub.keeper c.history-entries.ensures.keeper.tables in
    c.rows.ensures
    ∙ (ap (λ (kept : KeeperState). (tables_of kept).rows (key_of c.args.phone.now)) c.keeper.ensures
    ∙ (ap (λ (key : List ℕ). (tables_of s.hub.keeper).rows key) same
    ∙ (ap (λ (kept : Shelf). kept.rows) shelf ∙ ap (λ (p : Play). p.world.keeper.rows) c.self.view_is)))
