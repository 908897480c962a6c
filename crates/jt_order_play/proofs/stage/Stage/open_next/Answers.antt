use Rattle.std.proofs.Common.{ℕ, ◌+◌, ◌≤◌, ◌≡◌, List, [], ◌∷◌, ◌++◌, length, Some, true, ap, sym, refl, ◌∙◌, subst}
use Rattle.std.specs.List.{flat_map}
use Rattle.jt_escape.specs.Scan.{State as Splitting}
use Rattle.jt_store.specs.Memory.{KeeperState}
use Rattle.jt_platform.specs.Hub.{HubValue}
use Rattle.jt_terminal_rule.specs.declared.state.Event.TheVariants.{Lost, Opened}
use Rattle.jt_order_terminal.specs.Terminals.{StandsForLine}
use Rattle.jt_play.specs.Holding.{past_of}
use Rattle.jt_play.proofs.Acting.{down_is, ok_of}
use Rattle.jt_play.proofs.Beginning.{cut_open, open_quiet}
use Rattle.jt_order_octets.specs.Reaching.{Leads}
use Rattle.jt_order_play.specs.Holding.{IsStage, LineOfOrders, first_order_line, order_play_of, told_places, wrote_last}
use Rattle.jt_order_play.specs.Playing.{OrderPlay, meets}
use Rattle.jt_order_play.proofs.Acting.{apart_of}
use Rattle.jt_order_play.proofs.Beginning.{cut_opened, opened_leads, opened_stage, opened_wrote, room_stage, whole_opened}
use Rattle.jt_order_play.proofs.stage.Stage.open_next.Goals as goal

-- not opened
pub invariant_of-self : goal.invariant_of-self
invariant_of-self c =
    let s = c.self.inside in
    let room = c.add_line.ensures.room in
    subst (λ (ls : List LineOfOrders). IsStage s.terminal s.hears c.add_line.new.hub s.book.book s.issued ls s.clock) (sym (c.add_line.ensures.unadded c.if-not-add_line.true))
    (subst (λ (h : HubValue KeeperState). IsStage s.terminal s.hears h s.book.book s.issued s.lines.items s.clock) (sym room.is)
    (room_stage s.terminal s.hears s.hub s.book.book s.issued s.lines.items (past_of s.past.items) (told_places s.told.items) s.clock (length s.lines.items + 1) c.add_line.new.hub.reserved c.self.invariant refl room.grew))

-- sent
pub invariant_of-self-then-send : goal.invariant_of-self-then-send
invariant_of-self-then-send c =
    let s = c.self.inside in
    let added = c.add_line.ensures.added c.if-not-add_line.false in
    let room = c.add_line.ensures.room in
    let number = length s.lines.items + 1 in
    let more = s.lines.items ++ first_order_line number ∷ [] in
    let octets = flat_map (λ frame. frame) c.as_slice.result.now in
    let lines_are : c.send.new.lines.items ≡ wrote_last more octets = c.send.ensures.sent c.if-send.true ∙ ap (λ (ls : List LineOfOrders). wrote_last ls octets) added.0 in
    let first = c.event.ensures.opened refl in
    subst (λ (ls : List LineOfOrders). IsStage c.event.new.self true c.add_line.new.hub s.book.book s.issued ls s.clock) (sym lines_are)
    (subst (λ (h : HubValue KeeperState). IsStage c.event.new.self true h s.book.book s.issued (wrote_last more octets) s.clock) (sym room.is)
    (opened_wrote s.terminal s.hears s.hub s.book.book s.issued s.lines.items (past_of s.past.items) (told_places s.told.items) s.clock number c.add_line.new.hub.reserved c.self.invariant refl room.grew
    c.event.new.self c.event.ensures.settings c.event.ensures.log.0 c.event.ensures.log.1 c.event.ensures.sound c.event.ensures.limit first.0 first.1
    (record { late = subst (λ (n : ℕ). n ≤ s.clock) (sym c.event.ensures.time) c.self.invariant.clock_is.late; small = c.self.invariant.clock_is.small }) added.1 octets))

pub returns-then-send-clause-whole : goal.returns-then-send-clause-whole
returns-then-send-clause-whole c done =
    let s = c.self.inside in
    let added = c.add_line.ensures.added c.if-not-add_line.false in
    let room = c.add_line.ensures.room in
    let number = length s.lines.items + 1 in
    let more = s.lines.items ++ first_order_line number ∷ [] in
    let lines_are = c.send.ensures.sent c.if-send.true ∙ (ap (λ (ls : List LineOfOrders). wrote_last ls (flat_map (λ frame. frame) c.as_slice.result.now)) added.0
    ∙ ap (λ frames. wrote_last more (flat_map (λ frame. frame) frames)) (c.as_slice.ensures ∙ c.in-Ok.ensures.frames)) in
    ap (λ (h : HubValue KeeperState). order_play_of c.event.new.self h s.book.book c.send.new.lines.items (past_of s.past.items) (told_places s.told.items) s.clock) room.is
    ∙ (whole_opened s.terminal s.hears s.hub s.book.book s.issued s.lines.items (past_of s.past.items) (told_places s.told.items) s.clock number c.add_line.new.hub.reserved c.self.invariant refl room.grew
    c.event.new.self c.event.ensures.settings c.event.ensures.log.0 c.event.ensures.log.1 c.law_rule.ensures.steps c.send.new.lines.items c.in-Ok.ensures.state c.in-Ok.ensures.vault lines_are
    ∙ ap (λ (p : OrderPlay). meets p Opened) c.self.view_is)

pub returns-then-send-clause-leads : goal.returns-then-send-clause-leads
returns-then-send-clause-leads c =
    let s = c.self.inside in
    let room = c.add_line.ensures.room in
    subst (λ (p : OrderPlay). Leads c.args.self.now.world p.world) (sym (returns-then-send-clause-whole c refl))
    (subst (λ (p : OrderPlay). Leads p.world (meets p Opened).world) c.self.view_is
    (opened_leads s.terminal s.hears s.hub s.book.book s.issued s.lines.items (past_of s.past.items) (told_places s.told.items) s.clock (length s.lines.items + 1) c.add_line.new.hub.reserved c.self.invariant refl room.grew
    c.event.new.self c.event.ensures.settings c.event.ensures.log.0 c.event.ensures.log.1 c.law_rule.ensures.steps))

-- opened, but not told whole
pub returns-in-Err-clause-leads : goal.returns-in-Err-clause-leads
returns-in-Err-clause-leads c =
    let s = c.self.inside in
    let past = past_of s.past.items in
    let told = told_places s.told.items in
    let added = c.add_line.ensures.added c.if-not-add_line.false in
    let room = c.add_line.ensures.room in
    let w = (order_play_of s.terminal s.hub s.book.book s.lines.items past told s.clock).world in
    subst (λ (p : OrderPlay). Leads p.world (order_play_of c.event.new.self c.add_line.new.hub s.book.book c.add_line.new.lines.items past told s.clock).world) c.self.view_is
    (subst (λ (ls : List LineOfOrders). Leads w (order_play_of c.event.new.self c.add_line.new.hub s.book.book ls past told s.clock).world) (sym added.0)
    (subst (λ (h : HubValue KeeperState). Leads w (order_play_of c.event.new.self h s.book.book (s.lines.items ++ first_order_line (length s.lines.items + 1) ∷ []) past told s.clock).world) (sym room.is)
    (cut_opened s.terminal s.hears s.hub s.book.book s.issued s.lines.items past told s.clock (length s.lines.items + 1) c.add_line.new.hub.reserved c.self.invariant refl room.grew
    c.event.new.self c.event.ensures.settings c.event.ensures.log.0 c.event.ensures.log.1
    (cut_open s.terminal.terminal.state (Some s.terminal.terminal.vault.held) (Some c.event.new.self.terminal.vault.held) c.in-Err.ensures.cut) c.in-Err.ensures.down)))

pub invariant_of-self-in-Err : goal.invariant_of-self-in-Err
invariant_of-self-in-Err c =
    let s = c.self.inside in
    let added = c.add_line.ensures.added c.if-not-add_line.false in
    let room = c.add_line.ensures.room in
    let number = length s.lines.items + 1 in
    let more = s.lines.items ++ first_order_line number ∷ [] in
    let first = c.event.ensures.opened refl in
    subst (λ (ls : List LineOfOrders). IsStage c.event.new.self true c.add_line.new.hub s.book.book s.issued ls s.clock) (sym added.0)
    (subst (λ (h : HubValue KeeperState). IsStage c.event.new.self true h s.book.book s.issued more s.clock) (sym room.is)
    (opened_stage s.terminal s.hears s.hub s.book.book s.issued s.lines.items (past_of s.past.items) (told_places s.told.items) s.clock number c.add_line.new.hub.reserved c.self.invariant refl room.grew
    c.event.new.self c.event.ensures.settings c.event.ensures.log.0 c.event.ensures.log.1 c.event.ensures.sound c.event.ensures.limit first.0 first.1
    (record { late = subst (λ (n : ℕ). n ≤ s.clock) (sym c.event.ensures.time) c.self.invariant.clock_is.late; small = c.self.invariant.clock_is.small }) added.1))

-- opened, and no room for what is to be sent
pub invariant_of-self-in-Ok : goal.invariant_of-self-in-Ok
invariant_of-self-in-Ok c =
    let s = c.self.inside in
    let added = c.add_line.ensures.added c.if-not-add_line.false in
    let room = c.add_line.ensures.room in
    let number = length s.lines.items + 1 in
    let more = s.lines.items ++ first_order_line number ∷ [] in
    let lines_are : c.send.new.lines.items ≡ more = c.send.ensures.unsent c.if-send.false ∙ added.0 in
    let first = c.event.ensures.opened refl in
    let same : c.event-lost.new.self.stream ≡ c.event.new.self.stream = c.event-lost.ensures.same (apart_of Lost tt) in
    subst (λ (ls : List LineOfOrders). IsStage c.event-lost.new.self true c.add_line.new.hub s.book.book s.issued ls s.clock) (sym lines_are)
    (subst (λ (h : HubValue KeeperState). IsStage c.event-lost.new.self true h s.book.book s.issued more s.clock) (sym room.is)
    (opened_stage s.terminal s.hears s.hub s.book.book s.issued s.lines.items (past_of s.past.items) (told_places s.told.items) s.clock number c.add_line.new.hub.reserved c.self.invariant refl room.grew
    c.event-lost.new.self (c.event-lost.ensures.settings ∙ c.event.ensures.settings) (c.event-lost.ensures.log.0 ∙ c.event.ensures.log.0) (c.event-lost.ensures.log.1 ∙ c.event.ensures.log.1)
    c.event-lost.ensures.sound (c.event-lost.ensures.limit ∙ c.event.ensures.limit)
    (subst (λ (z : Splitting). StandsForLine z []) (sym same) first.0) (ap (λ (z : Splitting). z.place) same ∙ first.1)
    (record { late = subst (λ (n : ℕ). n ≤ s.clock) (sym (c.event-lost.ensures.time ∙ c.event.ensures.time)) c.self.invariant.clock_is.late; small = c.self.invariant.clock_is.small }) added.1))

pub returns-else-send-clause-leads : goal.returns-else-send-clause-leads
returns-else-send-clause-leads c =
    let s = c.self.inside in
    let past = past_of s.past.items in
    let told = told_places s.told.items in
    let added = c.add_line.ensures.added c.if-not-add_line.false in
    let room = c.add_line.ensures.room in
    let lines_are = c.send.ensures.unsent c.if-send.false ∙ added.0 in
    let ok = c.event-lost.ensures.lost refl in
    let w = (order_play_of s.terminal s.hub s.book.book s.lines.items past told s.clock).world in
    subst (λ (p : OrderPlay). Leads p.world (order_play_of c.event-lost.new.self c.add_line.new.hub s.book.book c.send.new.lines.items past told s.clock).world) c.self.view_is
    (subst (λ (ls : List LineOfOrders). Leads w (order_play_of c.event-lost.new.self c.add_line.new.hub s.book.book ls past told s.clock).world) (sym lines_are)
    (subst (λ (h : HubValue KeeperState). Leads w (order_play_of c.event-lost.new.self h s.book.book (s.lines.items ++ first_order_line (length s.lines.items + 1) ∷ []) past told s.clock).world) (sym room.is)
    (cut_opened s.terminal s.hears s.hub s.book.book s.issued s.lines.items past told s.clock (length s.lines.items + 1) c.add_line.new.hub.reserved c.self.invariant refl room.grew
    c.event-lost.new.self (c.event-lost.ensures.settings ∙ c.event.ensures.settings) (c.event-lost.ensures.log.0 ∙ c.event.ensures.log.0) (c.event-lost.ensures.log.1 ∙ c.event.ensures.log.1)
    (ok_of c.event-lost.result ok c.event-lost.ensures.vault ∙ (c.in-Ok.ensures.vault ∙ open_quiet s.terminal.terminal.state (Some s.terminal.terminal.vault.held)))
    (down_is c.event.new.self.terminal.state c.event-lost.new.self.terminal.state (ok_of c.event-lost.result ok c.event-lost.ensures.state)))))
