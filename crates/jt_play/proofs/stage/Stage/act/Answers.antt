use Rattle.jt_platform.specs.History.{newest}
use Rattle.std.proofs.Common.{ℕ, ◌≤◌, ◌≡◌, List, [], ap, sym, refl, ◌∙◌, subst}
use Rattle.std.specs.Prelude.{reverse}
use Rattle.std.proofs.lemmas.List.{append-nil}
use Rattle.std.specs.List.{flat_map}
use Rattle.jt_terminal_rule.specs.Rule.{rule}
use Rattle.jt_terminal_rule.specs.declared.settings.Settings.{Settings}
use Rattle.jt_play.proofs.Noting.{moment_after}
use Rattle.jt_octets.specs.Reaching.{Leads}
use Rattle.jt_play.specs.Holding.{Hears, IsClock, IsMoment, IsRunning, Numbered, lines_in, past_of, phone_in, play_of, recorded_in, taken_on, told_of, wrote_last}
use Rattle.jt_play.specs.Playing.{Play, meets}
use Rattle.jt_play.proofs.Acting.{cut_acted, down_is, meets_leads, ok_of, still_running, whole_acted, wrote_running}
use Rattle.jt_play.proofs.Worlds.{taken_wrote}
use Rattle.jt_terminal_rule.specs.declared.state.Event.TheVariants.{Lost}
use Rattle.jt_play.proofs.Recording.{event_cut, event_kept}
use Rattle.jt_play.proofs.stage.Stage.act.Goals as goal

pub invariant_of-self : goal.invariant_of-self
invariant_of-self c =
    let s = c.self.inside in (
      subst (λ (ls : List Numbered). IsRunning c.event.new.self s.hub ls) (sym (c.send.ensures.sent c.if-send.true))
          (wrote_running c.event.new.self s.hub s.lines.items (past_of s.past.items) (told_of s.told.items) s.clock
          (still_running s.terminal s.hub s.lines.items (past_of s.past.items) (told_of s.told.items) s.clock c.self.invariant.0 c.event.new.self c.event.ensures.sound c.event.ensures.settings c.event.ensures.outside.limit)
          (flat_map (λ frame. frame) c.as_slice.result.now)),
      subst (λ (ls : List Numbered). Hears s.hears s.ears (taken_on (lines_in ls))) (sym (c.send.ensures.sent c.if-send.true))
          (subst (Hears s.hears s.ears) (sym (taken_wrote s.lines.items (flat_map (λ frame. frame) c.as_slice.result.now))) c.self.invariant.1),
      (record { late = subst (λ (n : ℕ). n ≤ s.clock) (sym c.event.ensures.time) (moment_after s.terminal.state s.clock c.args.event (subst (λ (p : Play). IsMoment p.clock c.args.event) (sym c.self.view_is) c.requires.moment) c.self.invariant.2.late); small = c.self.invariant.2.small }),
    )

pub returns-then-send-clause-whole : goal.returns-then-send-clause-whole
returns-then-send-clause-whole c done =
    let s = c.self.inside in
    whole_acted s.terminal s.hub s.lines.items (past_of s.past.items) (told_of s.told.items) s.clock c.self.invariant.0 c.args.event c.requires.silent c.event.new.self c.event.ensures.settings c.law_rule.ensures.steps c.requires.other
    c.send.new.lines.items c.in-Ok.ensures.state c.in-Ok.ensures.vault
    (c.send.ensures.sent c.if-send.true ∙ ap (λ frames. wrote_last s.lines.items (flat_map (λ frame. frame) frames)) (c.as_slice.ensures ∙ c.in-Ok.ensures.frames))
    ∙ ap (λ (p : Play). meets p c.args.event) c.self.view_is

pub returns-then-send-clause-leads : goal.returns-then-send-clause-leads
returns-then-send-clause-leads c =
    let s = c.self.inside in
    subst (λ (p : Play). Leads c.args.self.now.world p.world) (sym (returns-then-send-clause-whole c refl))
    (subst (λ (p : Play). Leads p.world (meets p c.args.event).world) c.self.view_is
    (meets_leads s.terminal s.hub s.lines.items (past_of s.past.items) (told_of s.told.items) s.clock c.self.invariant.0 c.args.event c.requires.silent c.event.new.self c.event.ensures.settings c.law_rule.ensures.steps c.requires.other))

pub invariant_of-self-in-Ok : goal.invariant_of-self-in-Ok
invariant_of-self-in-Ok c =
    let s = c.self.inside in
    subst (λ (ls : List Numbered). IsRunning c.event-lost.new.self s.hub ls × Hears s.hears s.ears (taken_on (lines_in ls)) × IsClock c.event-lost.new.self s.clock) (sym (c.send.ensures.unsent c.if-send.false))
    (still_running s.terminal s.hub s.lines.items (past_of s.past.items) (told_of s.told.items) s.clock c.self.invariant.0 c.event-lost.new.self c.event-lost.ensures.sound (c.event-lost.ensures.settings ∙ c.event.ensures.settings) (c.event-lost.ensures.outside.limit ∙ c.event.ensures.outside.limit), c.self.invariant.1, record { late = subst (λ (n : ℕ). n ≤ s.clock) (sym (c.event-lost.ensures.time ∙ c.event.ensures.time)) (moment_after s.terminal.state s.clock c.args.event (subst (λ (p : Play). IsMoment p.clock c.args.event) (sym c.self.view_is) c.requires.moment) c.self.invariant.2.late); small = c.self.invariant.2.small })

pub returns-else-send-clause-leads : goal.returns-else-send-clause-leads
returns-else-send-clause-leads c =
    let s = c.self.inside in
    let ok = c.event-lost.ensures.lost refl in
    subst (λ (ls : List Numbered). Leads c.args.self.now.world (play_of c.event-lost.new.self s.hub ls (past_of s.past.items) (told_of s.told.items) s.clock).world) (sym (c.send.ensures.unsent c.if-send.false))
    (subst (λ (p : Play). Leads p.world (play_of c.event-lost.new.self s.hub s.lines.items (past_of s.past.items) (told_of s.told.items) s.clock).world) c.self.view_is
    (cut_acted s.terminal s.hub s.lines.items (past_of s.past.items) (told_of s.told.items) s.clock c.self.invariant.0 c.args.event c.requires.silent c.event-lost.new.self (c.event-lost.ensures.settings ∙ c.event.ensures.settings) c.law_rule.ensures.cut
    (rule s.terminal.state c.args.event).steps [] (sym (append-nil (rule s.terminal.state c.args.event).steps)) (ok_of c.event-lost.result ok c.event-lost.ensures.vault ∙ c.in-Ok.ensures.vault)
    (down_is c.event.new.self.state c.event-lost.new.self.state (ok_of c.event-lost.result ok c.event-lost.ensures.state))))

pub returns-in-Err-clause-leads : goal.returns-in-Err-clause-leads
returns-in-Err-clause-leads c =
    let s = c.self.inside in
    let short = c.in-Err.ensures.cut in
    subst (λ (p : Play). Leads p.world (play_of c.event.new.self s.hub s.lines.items (past_of s.past.items) (told_of s.told.items) s.clock).world) c.self.view_is
    (cut_acted s.terminal s.hub s.lines.items (past_of s.past.items) (told_of s.told.items) s.clock c.self.invariant.0 c.args.event c.requires.silent c.event.new.self c.event.ensures.settings c.law_rule.ensures.cut
    short.done short.left short.parts short.held c.in-Err.ensures.down)

-- what was recorded
pub returns-then-send-clause-recorded : goal.returns-then-send-clause-recorded
returns-then-send-clause-recorded c =
    let t = c.self.inside.terminal in
    event_kept t.state c.args.event t.vault.held c.event.new.self.vault.held c.in-Ok.ensures.vault ∙ ap recorded_in c.self.view_is

pub returns-else-send-clause-recorded : goal.returns-else-send-clause-recorded
returns-else-send-clause-recorded c =
    let t = c.self.inside.terminal in
    let mid = c.event.new.self in
    event_kept mid.state Lost mid.vault.held c.event-lost.new.self.vault.held (ok_of c.event-lost.result (c.event-lost.ensures.lost refl) c.event-lost.ensures.vault)
    ∙ (event_kept t.state c.args.event t.vault.held mid.vault.held c.in-Ok.ensures.vault ∙ ap recorded_in c.self.view_is)

pub returns-in-Err-clause-recorded : goal.returns-in-Err-clause-recorded
returns-in-Err-clause-recorded c =
    let t = c.self.inside.terminal in
    event_cut t.state c.args.event t.vault.held c.event.new.self.vault.held c.in-Err.ensures.cut ∙ ap recorded_in c.self.view_is

-- no event changes the phone
pub returns-then-send-clause-phone : goal.returns-then-send-clause-phone
returns-then-send-clause-phone c = ap (λ (s : Settings). s.phone) c.event.ensures.settings ∙ ap phone_in c.self.view_is

pub returns-else-send-clause-phone : goal.returns-else-send-clause-phone
returns-else-send-clause-phone c = ap (λ (s : Settings). s.phone) (c.event-lost.ensures.settings ∙ c.event.ensures.settings) ∙ ap phone_in c.self.view_is

pub returns-in-Err-clause-phone : goal.returns-in-Err-clause-phone
returns-in-Err-clause-phone c = ap (λ (s : Settings). s.phone) c.event.ensures.settings ∙ ap phone_in c.self.view_is
