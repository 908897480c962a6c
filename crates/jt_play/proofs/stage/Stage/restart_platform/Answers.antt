use Rattle.std.proofs.Common.{ℕ, ◌≡◌, List, [], ◌∷◌, ◌++◌, set, ap, sym, ◌∙◌, refl, subst}
use Rattle.std.proofs.lemmas.Slice.Eq.{bytes_eq-Decides}
use Rattle.jt_value.specs.Sameness.{key_of}
use Rattle.jt_store.specs.Memory.{KeeperState}
use Rattle.jt_platform.specs.declared.request.Entry.{Entry}
use Rattle.jt_platform.specs.Hub.{HubValue}
use Rattle.jt_platform.specs.Laws.{AreOf}
use Rattle.jt_octets.specs.Reaching.{Leads}
use Rattle.jt_octets.specs.Steps.{RestartPlatform, after}
use Rattle.jt_play.specs.Holding.{Hears, IsRunning, Numbered, lines_in, past_of, play_of, shut_lines, taken_on, told_of}
use Rattle.jt_play.specs.Playing.{Play}
use Rattle.jt_play.proofs.Shutting.{anew_leads, anew_running, anew_whole, taken_shut}
use Rattle.jt_play.proofs.stage.Stage.restart_platform.Goals as goal

pub invariant_of-self : goal.invariant_of-self
invariant_of-self c =
    let s = c.self.inside in
    let own = subst (λ (p : Play). AreOf (key_of p.world.terminal.phone) p.world.history) (sym c.self.view_is) c.requires.own in
    let at = c.restart.ensures.keeper in (
      subst (λ (ls : List Numbered). IsRunning s.terminal c.restart.new.self ls) (sym c.shut_all.ensures)
          (subst (λ (hub : HubValue KeeperState). IsRunning s.terminal hub (shut_lines s.lines.items)) (sym c.restart.ensures.hub)
          (anew_running c.law_histories.ensures (λ key. (bytes_eq-Decides key key).1 refl) s.terminal s.hub s.lines.items s.past.items (told_of s.told.items) s.clock c.self.invariant.0 own at.tables at.limit)),
      subst (λ (ls : List Numbered). Hears s.hears s.ears (taken_on (lines_in ls))) (sym c.shut_all.ensures) (subst (Hears s.hears s.ears) (sym (taken_shut s.lines.items)) c.self.invariant.1),
      c.self.invariant.2,
    )

pub returns-in-Ok-clause-leads : goal.returns-in-Ok-clause-leads
returns-in-Ok-clause-leads c =
    let s = c.self.inside in
    let own = subst (λ (p : Play). AreOf (key_of p.world.terminal.phone) p.world.history) (sym c.self.view_is) c.requires.own in
    let at = c.restart.ensures.keeper in
    let made = c.in-Ok.ensures.ok in
    let kept : set (s.past.items ++ [] ∷ []) c.in-Ok.place s.hub.history ≡ c.keep_history.new.past.items =
    ap (λ (h : List Entry). set (s.past.items ++ [] ∷ []) c.in-Ok.place h) (sym c.restart.ensures.history) ∙ (ap (λ (past : List (List Entry)). set past c.in-Ok.place c.restart.result) (sym made.1) ∙ sym c.keep_history.ensures) in
    subst (λ (p : Play). Leads p.world (play_of s.terminal c.restart.new.self c.shut_all.new.lines.items (past_of c.keep_history.new.past.items) (told_of s.told.items) s.clock).world) c.self.view_is
    (subst (λ (past : List (List Entry)). Leads (play_of s.terminal s.hub s.lines.items (past_of s.past.items) (told_of s.told.items) s.clock).world (play_of s.terminal c.restart.new.self c.shut_all.new.lines.items (past_of past) (told_of s.told.items) s.clock).world) kept
    (subst (λ (ls : List Numbered). Leads (play_of s.terminal s.hub s.lines.items (past_of s.past.items) (told_of s.told.items) s.clock).world (play_of s.terminal c.restart.new.self ls (past_of (set (s.past.items ++ [] ∷ []) c.in-Ok.place s.hub.history)) (told_of s.told.items) s.clock).world) (sym c.shut_all.ensures)
    (subst (λ (hub : HubValue KeeperState). Leads (play_of s.terminal s.hub s.lines.items (past_of s.past.items) (told_of s.told.items) s.clock).world (play_of s.terminal hub (shut_lines s.lines.items) (past_of (set (s.past.items ++ [] ∷ []) c.in-Ok.place s.hub.history)) (told_of s.told.items) s.clock).world) (sym c.restart.ensures.hub)
    (anew_leads c.law_histories.ensures (λ key. (bytes_eq-Decides key key).1 refl) s.terminal s.hub s.lines.items s.past.items (told_of s.told.items) s.clock c.self.invariant.0 own at.tables at.limit c.in-Ok.place made.0))))

pub returns-in-Ok-clause-ok : goal.returns-in-Ok-clause-ok
returns-in-Ok-clause-ok c =
    let s = c.self.inside in
    let own = subst (λ (p : Play). AreOf (key_of p.world.terminal.phone) p.world.history) (sym c.self.view_is) c.requires.own in
    let at = c.restart.ensures.keeper in
    let made = c.in-Ok.ensures.ok in
    let kept : set (s.past.items ++ [] ∷ []) c.in-Ok.place s.hub.history ≡ c.keep_history.new.past.items =
    ap (λ (h : List Entry). set (s.past.items ++ [] ∷ []) c.in-Ok.place h) (sym c.restart.ensures.history) ∙ (ap (λ (past : List (List Entry)). set past c.in-Ok.place c.restart.result) (sym made.1) ∙ sym c.keep_history.ensures) in
    subst (λ (p : Play). play_of s.terminal c.restart.new.self c.shut_all.new.lines.items (past_of c.keep_history.new.past.items) (told_of s.told.items) s.clock ≡ record p { world = after p.world RestartPlatform }) c.self.view_is
    (ap (λ (past : List (List Entry)). play_of s.terminal c.restart.new.self c.shut_all.new.lines.items (past_of past) (told_of s.told.items) s.clock) (sym kept)
    ∙ (ap (λ (ls : List Numbered). play_of s.terminal c.restart.new.self ls (past_of (set (s.past.items ++ [] ∷ []) c.in-Ok.place s.hub.history)) (told_of s.told.items) s.clock) c.shut_all.ensures
    ∙ (ap (λ (hub : HubValue KeeperState). play_of s.terminal hub (shut_lines s.lines.items) (past_of (set (s.past.items ++ [] ∷ []) c.in-Ok.place s.hub.history)) (told_of s.told.items) s.clock) c.restart.ensures.hub
    ∙ anew_whole c.law_histories.ensures (λ key. (bytes_eq-Decides key key).1 refl) s.terminal s.hub s.lines.items s.past.items (told_of s.told.items) s.clock c.self.invariant.0 own at.tables at.limit c.in-Ok.place made.0)))
