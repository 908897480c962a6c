use Rattle.std.proofs.Common.{◌≡◌, List, [], ◌∷◌, ◌++◌, set, ap, sym, ◌∙◌, refl, subst}
use Rattle.std.proofs.lemmas.Slice.Eq.{bytes_eq-Decides}
use Rattle.jt_value.specs.Sameness.{key_of}
use Rattle.jt_store.specs.Memory.{KeeperState}
use Rattle.jt_platform.specs.declared.request.Entry.{Entry}
use Rattle.jt_platform.specs.Hub.{HubValue}
use Rattle.jt_platform.specs.Laws.{AreOf}
use Rattle.jt_order_octets.specs.Reaching.{Leads}
use Rattle.jt_order_octets.specs.Steps.{RestartPlatform, after}
use Rattle.jt_play.specs.Holding.{past_of}
use Rattle.jt_order_play.specs.Holding.{IsStage, LineOfOrders, order_play_of, shut_order_lines, told_places}
use Rattle.jt_order_play.specs.Playing.{OrderPlay, with_world}
use Rattle.jt_order_play.proofs.Shutting.{anew_leads, anew_stage, anew_whole}
use Rattle.jt_order_play.proofs.stage.Stage.restart_platform.Goals as goal

pub invariant_of-self : goal.invariant_of-self
invariant_of-self c =
    let s = c.self.inside in
    let own = subst (λ (p : OrderPlay). AreOf (key_of p.world.base.terminal.phone) p.world.base.history) (sym c.self.view_is) c.requires.own in
    let at = c.restart.ensures.keeper in
    subst (λ (ls : List LineOfOrders). IsStage s.terminal s.hears c.restart.new.self s.book.book s.issued ls s.clock) (sym c.shut_all.ensures)
    (subst (λ (hub : HubValue KeeperState). IsStage s.terminal s.hears hub s.book.book s.issued (shut_order_lines s.lines.items) s.clock) (sym c.restart.ensures.hub)
    (anew_stage c.law_histories.ensures (λ key. (bytes_eq-Decides key key).1 refl) s.terminal s.hears s.hub s.book.book s.issued s.lines.items s.past.items (told_places s.told.items) s.clock c.self.invariant own at.tables at.limit))

pub returns-in-Ok-clause-leads : goal.returns-in-Ok-clause-leads
returns-in-Ok-clause-leads c =
    let s = c.self.inside in
    let own = subst (λ (p : OrderPlay). AreOf (key_of p.world.base.terminal.phone) p.world.base.history) (sym c.self.view_is) c.requires.own in
    let at = c.restart.ensures.keeper in
    let made = c.in-Ok.ensures.ok in
    let old = order_play_of s.terminal s.hub s.book.book s.lines.items (past_of s.past.items) (told_places s.told.items) s.clock in
    let kept : set (s.past.items ++ [] ∷ []) c.in-Ok.place s.hub.history ≡ c.keep_history.new.past.items =
    ap (λ (h : List Entry). set (s.past.items ++ [] ∷ []) c.in-Ok.place h) (sym c.restart.ensures.history) ∙ (ap (λ (past : List (List Entry)). set past c.in-Ok.place c.restart.result) (sym made.1) ∙ sym c.keep_history.ensures) in
    subst (λ (p : OrderPlay). Leads p.world (order_play_of s.terminal c.restart.new.self s.book.book c.shut_all.new.lines.items (past_of c.keep_history.new.past.items) (told_places s.told.items) s.clock).world) c.self.view_is
    (subst (λ (past : List (List Entry)). Leads old.world (order_play_of s.terminal c.restart.new.self s.book.book c.shut_all.new.lines.items (past_of past) (told_places s.told.items) s.clock).world) kept
    (subst (λ (ls : List LineOfOrders). Leads old.world (order_play_of s.terminal c.restart.new.self s.book.book ls (past_of (set (s.past.items ++ [] ∷ []) c.in-Ok.place s.hub.history)) (told_places s.told.items) s.clock).world) (sym c.shut_all.ensures)
    (subst (λ (hub : HubValue KeeperState). Leads old.world (order_play_of s.terminal hub s.book.book (shut_order_lines s.lines.items) (past_of (set (s.past.items ++ [] ∷ []) c.in-Ok.place s.hub.history)) (told_places s.told.items) s.clock).world) (sym c.restart.ensures.hub)
    (anew_leads c.law_histories.ensures (λ key. (bytes_eq-Decides key key).1 refl) s.terminal s.hears s.hub s.book.book s.issued s.lines.items s.past.items (told_places s.told.items) s.clock c.self.invariant own at.tables at.limit c.in-Ok.place made.0))))

pub returns-in-Ok-clause-ok : goal.returns-in-Ok-clause-ok
returns-in-Ok-clause-ok c =
    let s = c.self.inside in
    let own = subst (λ (p : OrderPlay). AreOf (key_of p.world.base.terminal.phone) p.world.base.history) (sym c.self.view_is) c.requires.own in
    let at = c.restart.ensures.keeper in
    let made = c.in-Ok.ensures.ok in
    let kept : set (s.past.items ++ [] ∷ []) c.in-Ok.place s.hub.history ≡ c.keep_history.new.past.items =
    ap (λ (h : List Entry). set (s.past.items ++ [] ∷ []) c.in-Ok.place h) (sym c.restart.ensures.history) ∙ (ap (λ (past : List (List Entry)). set past c.in-Ok.place c.restart.result) (sym made.1) ∙ sym c.keep_history.ensures) in
    subst (λ (p : OrderPlay). order_play_of s.terminal c.restart.new.self s.book.book c.shut_all.new.lines.items (past_of c.keep_history.new.past.items) (told_places s.told.items) s.clock ≡ with_world p (after p.world RestartPlatform)) c.self.view_is
    (ap (λ (past : List (List Entry)). order_play_of s.terminal c.restart.new.self s.book.book c.shut_all.new.lines.items (past_of past) (told_places s.told.items) s.clock) (sym kept)
    ∙ (ap (λ (ls : List LineOfOrders). order_play_of s.terminal c.restart.new.self s.book.book ls (past_of (set (s.past.items ++ [] ∷ []) c.in-Ok.place s.hub.history)) (told_places s.told.items) s.clock) c.shut_all.ensures
    ∙ (ap (λ (hub : HubValue KeeperState). order_play_of s.terminal hub s.book.book (shut_order_lines s.lines.items) (past_of (set (s.past.items ++ [] ∷ []) c.in-Ok.place s.hub.history)) (told_places s.told.items) s.clock) c.restart.ensures.hub
    ∙ anew_whole c.law_histories.ensures (λ key. (bytes_eq-Decides key key).1 refl) s.terminal s.hears s.hub s.book.book s.issued s.lines.items s.past.items (told_places s.told.items) s.clock c.self.invariant own at.tables at.limit c.in-Ok.place made.0)))
