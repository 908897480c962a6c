use Rattle.jt_platform.specs.History.{newest}
use Rattle.std.proofs.Common.{ℕ, ◌+◌, ◌≤◌, ◌<◌, ◌≡◌, List, [], ◌∷◌, ◌++◌, length, Some, Bool, true, arith, ap, sym, refl, ◌∙◌, subst}
use Rattle.std.specs.List.{flat_map}
use Rattle.jt_platform.specs.Hub.{HubValue}
use Rattle.jt_store.specs.Memory.{KeeperState, Stock}
use Rattle.jt_terminal.specs.Line.{LineValue, StandsForLine}
use Rattle.jt_terminal_steps.specs.Running.{TerminalValue}
use Rattle.jt_octets.specs.Reaching.{Leads}
use Rattle.jt_play.specs.Holding.{HasMoreRoom, Hears, IsClock, IsHearing, IsRunning, Numbered, first_line, lines_in, past_of, phone_in, play_of, recorded_in, taken_on, told_of, wrote_last}
use Rattle.jt_play.specs.Playing.{Play, meets}
use Rattle.jt_terminal_rule.specs.declared.settings.Settings.{Settings}
use Rattle.jt_terminal_rule.specs.declared.state.Event.TheVariants.{Lost, Opened}
use Rattle.jt_play.proofs.Acting.{down_is, ok_of, still_running, wrote_running}
use Rattle.jt_play.proofs.Beginning.{cut_open, cut_opened, heard_from_new, more_running, open_quiet, opened_leads, room_running, taken_more, whole_opened}
use Rattle.jt_play.proofs.Downward.{leads_none}
use Rattle.jt_play.proofs.Worlds.{length_in, taken_wrote}
use Rattle.jt_play.proofs.Recording.{event_cut, event_kept}
use Rattle.jt_play.proofs.stage.Stage.open_next.Goals as goal

-- not opened
pub invariant_of-self : goal.invariant_of-self
invariant_of-self c =
    let s = c.self.inside in
    let same = c.add_line.ensures.unadded c.if-not-add_line.true in
    let room = c.add_line.ensures.room in (
      subst (λ (ls : List Numbered). IsRunning s.terminal c.add_line.new.hub ls) (sym same)
          (subst (λ (h : HubValue KeeperState). IsRunning s.terminal h s.lines.items) (sym room.is)
          (room_running s.terminal s.hub s.lines.items (past_of s.past.items) (told_of s.told.items) s.clock (length s.lines.items + 1) c.add_line.new.hub.reserved c.self.invariant.0 refl room.grew)),
      subst (λ (ls : List Numbered). Hears s.hears s.ears (taken_on (lines_in ls))) (sym same) c.self.invariant.1,
      c.self.invariant.2,
    )

-- sent
pub invariant_of-self-then-send : goal.invariant_of-self-then-send
invariant_of-self-then-send c =
    let s = c.self.inside in
    let added = c.add_line.ensures.added c.if-not-add_line.false in
    let room = c.add_line.ensures.room in
    let number = length s.lines.items + 1 in
    let more = s.lines.items ++ first_line number ∷ [] in
    let octets = flat_map (λ frame. frame) c.as_slice.result.now in
    let lines_are : c.send.new.lines.items ≡ wrote_last more octets = c.send.ensures.sent c.if-send.true ∙ ap (λ (ls : List Numbered). wrote_last ls octets) added.0 in
    let base : IsRunning s.terminal c.add_line.new.hub more =
    subst (λ (h : HubValue KeeperState). IsRunning s.terminal h more) (sym room.is) (more_running s.terminal s.hub s.lines.items (past_of s.past.items) (told_of s.told.items) s.clock number c.add_line.new.hub.reserved c.self.invariant.0 refl room.grew added.1) in
    let seen : taken_on (lines_in c.send.new.lines.items) ≡ [] = ap (λ (ls : List Numbered). taken_on (lines_in ls)) lines_are
    ∙ (taken_wrote more octets ∙ taken_more s.terminal s.hub s.lines.items (past_of s.past.items) (told_of s.told.items) s.clock number c.add_line.new.hub.reserved c.self.invariant.0 refl room.grew) in (
      subst (λ (ls : List Numbered). IsRunning c.event.new.self c.add_line.new.hub ls) (sym lines_are)
          (wrote_running c.event.new.self c.add_line.new.hub more (past_of s.past.items) (told_of s.told.items) s.clock
          (still_running s.terminal c.add_line.new.hub more (past_of s.past.items) (told_of s.told.items) s.clock base c.event.new.self c.event.ensures.sound c.event.ensures.settings c.event.ensures.outside.limit) octets),
      λ on. heard_from_new c.new.result (taken_on (lines_in c.send.new.lines.items)) c.new.ensures.stands c.new.ensures.place seen,
      (record { late = subst (λ (n : ℕ). n ≤ s.clock) (sym c.event.ensures.time) c.self.invariant.2.late; small = c.self.invariant.2.small }),
    )

pub returns-then-send-clause-whole : goal.returns-then-send-clause-whole
returns-then-send-clause-whole c done =
    let s = c.self.inside in
    let added = c.add_line.ensures.added c.if-not-add_line.false in
    let room = c.add_line.ensures.room in
    let number = length s.lines.items + 1 in
    let more = s.lines.items ++ first_line number ∷ [] in
    let lines_are = c.send.ensures.sent c.if-send.true ∙ (ap (λ (ls : List Numbered). wrote_last ls (flat_map (λ frame. frame) c.as_slice.result.now)) added.0
    ∙ ap (λ frames. wrote_last more (flat_map (λ frame. frame) frames)) (c.as_slice.ensures ∙ c.in-Ok.ensures.frames)) in
    ap (λ (h : HubValue KeeperState). play_of c.event.new.self h c.send.new.lines.items (past_of s.past.items) (told_of s.told.items) s.clock) room.is
    ∙ (whole_opened s.terminal s.hub s.lines.items (past_of s.past.items) (told_of s.told.items) s.clock number c.add_line.new.hub.reserved c.self.invariant.0 refl room.grew c.event.new.self c.event.ensures.settings c.law_rule.ensures.steps
    c.send.new.lines.items c.in-Ok.ensures.state c.in-Ok.ensures.vault lines_are
    ∙ ap (λ (p : Play). meets p Opened) c.self.view_is)

pub returns-then-send-clause-leads : goal.returns-then-send-clause-leads
returns-then-send-clause-leads c =
    let s = c.self.inside in
    let room = c.add_line.ensures.room in
    subst (λ (p : Play). Leads c.args.self.now.world p.world) (sym (returns-then-send-clause-whole c refl))
    (subst (λ (p : Play). Leads p.world (meets p Opened).world) c.self.view_is
    (opened_leads s.terminal s.hub s.lines.items (past_of s.past.items) (told_of s.told.items) s.clock (length s.lines.items + 1) c.add_line.new.hub.reserved c.self.invariant.0 refl room.grew c.event.new.self c.event.ensures.settings c.law_rule.ensures.steps))

-- opened, but not told whole
pub returns-in-Err-clause-leads : goal.returns-in-Err-clause-leads
returns-in-Err-clause-leads c =
    let s = c.self.inside in
    let added = c.add_line.ensures.added c.if-not-add_line.false in
    let room = c.add_line.ensures.room in
    subst (λ (p : Play). Leads p.world (play_of c.event.new.self c.add_line.new.hub c.add_line.new.lines.items (past_of s.past.items) (told_of s.told.items) s.clock).world) c.self.view_is
    (subst (λ (ls : List Numbered). Leads (play_of s.terminal s.hub s.lines.items (past_of s.past.items) (told_of s.told.items) s.clock).world (play_of c.event.new.self c.add_line.new.hub ls (past_of s.past.items) (told_of s.told.items) s.clock).world) (sym added.0)
    (subst (λ (h : HubValue KeeperState). Leads (play_of s.terminal s.hub s.lines.items (past_of s.past.items) (told_of s.told.items) s.clock).world (play_of c.event.new.self h (s.lines.items ++ first_line (length s.lines.items + 1) ∷ []) (past_of s.past.items) (told_of s.told.items) s.clock).world) (sym room.is)
    (cut_opened s.terminal s.hub s.lines.items (past_of s.past.items) (told_of s.told.items) s.clock (length s.lines.items + 1) c.add_line.new.hub.reserved c.self.invariant.0 refl room.grew c.event.new.self c.event.ensures.settings
    (cut_open s.terminal.state (Some s.terminal.vault.held) (Some c.event.new.self.vault.held) c.in-Err.ensures.cut) c.in-Err.ensures.down)))

pub invariant_of-self-in-Err : goal.invariant_of-self-in-Err
invariant_of-self-in-Err c =
    let s = c.self.inside in
    let added = c.add_line.ensures.added c.if-not-add_line.false in
    let room = c.add_line.ensures.room in
    let number = length s.lines.items + 1 in
    let more = s.lines.items ++ first_line number ∷ [] in
    let base : IsRunning s.terminal c.add_line.new.hub more =
    subst (λ (h : HubValue KeeperState). IsRunning s.terminal h more) (sym room.is) (more_running s.terminal s.hub s.lines.items (past_of s.past.items) (told_of s.told.items) s.clock number c.add_line.new.hub.reserved c.self.invariant.0 refl room.grew added.1) in
    let seen : taken_on (lines_in c.add_line.new.lines.items) ≡ [] = ap (λ (ls : List Numbered). taken_on (lines_in ls)) added.0
    ∙ taken_more s.terminal s.hub s.lines.items (past_of s.past.items) (told_of s.told.items) s.clock number c.add_line.new.hub.reserved c.self.invariant.0 refl room.grew in (
      subst (λ (ls : List Numbered). IsRunning c.event.new.self c.add_line.new.hub ls) (sym added.0)
          (still_running s.terminal c.add_line.new.hub more (past_of s.past.items) (told_of s.told.items) s.clock base c.event.new.self c.event.ensures.sound c.event.ensures.settings c.event.ensures.outside.limit),
      λ on. heard_from_new c.new.result (taken_on (lines_in c.add_line.new.lines.items)) c.new.ensures.stands c.new.ensures.place seen,
      (record { late = subst (λ (n : ℕ). n ≤ s.clock) (sym c.event.ensures.time) c.self.invariant.2.late; small = c.self.invariant.2.small }),
    )

-- opened, and no room for what is to be sent
pub invariant_of-self-in-Ok : goal.invariant_of-self-in-Ok
invariant_of-self-in-Ok c =
    let s = c.self.inside in
    let added = c.add_line.ensures.added c.if-not-add_line.false in
    let room = c.add_line.ensures.room in
    let number = length s.lines.items + 1 in
    let more = s.lines.items ++ first_line number ∷ [] in
    let lines_are : c.send.new.lines.items ≡ more = c.send.ensures.unsent c.if-send.false ∙ added.0 in
    let base : IsRunning s.terminal c.add_line.new.hub more =
    subst (λ (h : HubValue KeeperState). IsRunning s.terminal h more) (sym room.is) (more_running s.terminal s.hub s.lines.items (past_of s.past.items) (told_of s.told.items) s.clock number c.add_line.new.hub.reserved c.self.invariant.0 refl room.grew added.1) in
    let seen : taken_on (lines_in c.send.new.lines.items) ≡ [] = ap (λ (ls : List Numbered). taken_on (lines_in ls)) lines_are
    ∙ taken_more s.terminal s.hub s.lines.items (past_of s.past.items) (told_of s.told.items) s.clock number c.add_line.new.hub.reserved c.self.invariant.0 refl room.grew in (
      subst (λ (ls : List Numbered). IsRunning c.event-lost.new.self c.add_line.new.hub ls) (sym lines_are)
          (still_running s.terminal c.add_line.new.hub more (past_of s.past.items) (told_of s.told.items) s.clock base c.event-lost.new.self c.event-lost.ensures.sound (c.event-lost.ensures.settings ∙ c.event.ensures.settings) (c.event-lost.ensures.outside.limit ∙ c.event.ensures.outside.limit)),
      λ on. heard_from_new c.new.result (taken_on (lines_in c.send.new.lines.items)) c.new.ensures.stands c.new.ensures.place seen,
      (record { late = subst (λ (n : ℕ). n ≤ s.clock) (sym (c.event-lost.ensures.time ∙ c.event.ensures.time)) c.self.invariant.2.late; small = c.self.invariant.2.small }),
    )

pub returns-else-send-clause-leads : goal.returns-else-send-clause-leads
returns-else-send-clause-leads c =
    let s = c.self.inside in
    let added = c.add_line.ensures.added c.if-not-add_line.false in
    let room = c.add_line.ensures.room in
    let lines_are = c.send.ensures.unsent c.if-send.false ∙ added.0 in
    let ok = c.event-lost.ensures.lost refl in
    subst (λ (p : Play). Leads p.world (play_of c.event-lost.new.self c.add_line.new.hub c.send.new.lines.items (past_of s.past.items) (told_of s.told.items) s.clock).world) c.self.view_is
    (subst (λ (ls : List Numbered). Leads (play_of s.terminal s.hub s.lines.items (past_of s.past.items) (told_of s.told.items) s.clock).world (play_of c.event-lost.new.self c.add_line.new.hub ls (past_of s.past.items) (told_of s.told.items) s.clock).world) (sym lines_are)
    (subst (λ (h : HubValue KeeperState). Leads (play_of s.terminal s.hub s.lines.items (past_of s.past.items) (told_of s.told.items) s.clock).world (play_of c.event-lost.new.self h (s.lines.items ++ first_line (length s.lines.items + 1) ∷ []) (past_of s.past.items) (told_of s.told.items) s.clock).world) (sym room.is)
    (cut_opened s.terminal s.hub s.lines.items (past_of s.past.items) (told_of s.told.items) s.clock (length s.lines.items + 1) c.add_line.new.hub.reserved c.self.invariant.0 refl room.grew c.event-lost.new.self (c.event-lost.ensures.settings ∙ c.event.ensures.settings)
    (ok_of c.event-lost.result ok c.event-lost.ensures.vault ∙ (c.in-Ok.ensures.vault ∙ open_quiet s.terminal.state (Some s.terminal.vault.held)))
    (down_is c.event.new.self.state c.event-lost.new.self.state (ok_of c.event-lost.result ok c.event-lost.ensures.state)))))

-- what was recorded
pub returns-then-send-clause-recorded : goal.returns-then-send-clause-recorded
returns-then-send-clause-recorded c =
    let t = c.self.inside.terminal in
    event_kept t.state Opened t.vault.held c.event.new.self.vault.held c.in-Ok.ensures.vault ∙ ap recorded_in c.self.view_is

pub returns-else-send-clause-recorded : goal.returns-else-send-clause-recorded
returns-else-send-clause-recorded c =
    let t = c.self.inside.terminal in
    let mid = c.event.new.self in
    event_kept mid.state Lost mid.vault.held c.event-lost.new.self.vault.held (ok_of c.event-lost.result (c.event-lost.ensures.lost refl) c.event-lost.ensures.vault)
    ∙ (event_kept t.state Opened t.vault.held mid.vault.held c.in-Ok.ensures.vault ∙ ap recorded_in c.self.view_is)

pub returns-in-Err-clause-recorded : goal.returns-in-Err-clause-recorded
returns-in-Err-clause-recorded c =
    let t = c.self.inside.terminal in
    event_cut t.state Opened t.vault.held c.event.new.self.vault.held c.in-Err.ensures.cut ∙ ap recorded_in c.self.view_is

-- the phone stays
pub returns-then-send-clause-phone : goal.returns-then-send-clause-phone
returns-then-send-clause-phone c = ap (λ (s : Settings). s.phone) c.event.ensures.settings ∙ ap phone_in c.self.view_is

pub returns-else-send-clause-phone : goal.returns-else-send-clause-phone
returns-else-send-clause-phone c = ap (λ (s : Settings). s.phone) (c.event-lost.ensures.settings ∙ c.event.ensures.settings) ∙ ap phone_in c.self.view_is

pub returns-in-Err-clause-phone : goal.returns-in-Err-clause-phone
returns-in-Err-clause-phone c = ap (λ (s : Settings). s.phone) c.event.ensures.settings ∙ ap phone_in c.self.view_is
