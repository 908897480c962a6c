use Rattle.std.proofs.Common.{ℕ, ◌≤◌, List, [], ap, sym, refl, ◌∙◌, subst}
use Rattle.std.proofs.lemmas.List.{append-nil}
use Rattle.std.specs.List.{flat_map}
use Rattle.jt_terminal_rule.specs.Rule.{rule}
use Rattle.jt_terminal_rule.specs.declared.state.Event.TheVariants.{Lost}
use Rattle.jt_play.specs.Holding.{IsMoment, past_of}
use Rattle.jt_play.proofs.Acting.{down_is, ok_of}
use Rattle.jt_play.proofs.Noting.{moment_after}
use Rattle.jt_order_octets.specs.Reaching.{Leads}
use Rattle.jt_order_play.specs.Holding.{IsStage, LineOfOrders, order_play_of, told_places, wrote_last}
use Rattle.jt_order_play.specs.Playing.{OrderPlay, meets}
use Rattle.jt_order_play.proofs.Acting.{apart_of, cut_acted, meets_leads, still_stage, whole_acted, wrote_stage}
use Rattle.jt_order_play.proofs.stage.Stage.act.Goals as goal

pub returns-then-send-clause-whole : goal.returns-then-send-clause-whole
returns-then-send-clause-whole c done =
    let s = c.self.inside in
    whole_acted s.terminal s.hears s.hub s.book.book s.issued s.lines.items (past_of s.past.items) (told_places s.told.items) s.clock c.self.invariant c.args.event c.requires.silent c.requires.no_message c.event.new.self c.event.ensures.settings c.event.ensures.log.0 c.event.ensures.log.1
    c.law_rule.ensures.steps c.requires.other c.send.new.lines.items c.in-Ok.ensures.state c.in-Ok.ensures.vault
    (c.send.ensures.sent c.if-send.true ∙ ap (λ frames. wrote_last s.lines.items (flat_map (λ frame. frame) frames)) (c.as_slice.ensures ∙ c.in-Ok.ensures.frames))
    ∙ ap (λ (p : OrderPlay). meets p c.args.event) c.self.view_is

pub returns-then-send-clause-leads : goal.returns-then-send-clause-leads
returns-then-send-clause-leads c =
    let s = c.self.inside in
    subst (λ (p : OrderPlay). Leads c.args.self.now.world p.world) (sym (returns-then-send-clause-whole c refl))
    (subst (λ (p : OrderPlay). Leads p.world (meets p c.args.event).world) c.self.view_is
    (meets_leads s.terminal s.hears s.hub s.book.book s.issued s.lines.items (past_of s.past.items) (told_places s.told.items) s.clock c.self.invariant c.args.event c.requires.silent c.requires.no_message c.event.new.self c.event.ensures.settings c.event.ensures.log.0 c.event.ensures.log.1
    c.law_rule.ensures.steps c.requires.other))

pub returns-else-send-clause-leads : goal.returns-else-send-clause-leads
returns-else-send-clause-leads c =
    let s = c.self.inside in
    let ok = c.event-lost.ensures.lost refl in
    subst (λ (ls : List LineOfOrders). Leads c.args.self.now.world (order_play_of c.event-lost.new.self s.hub s.book.book ls (past_of s.past.items) (told_places s.told.items) s.clock).world) (sym (c.send.ensures.unsent c.if-send.false))
    (subst (λ (p : OrderPlay). Leads p.world (order_play_of c.event-lost.new.self s.hub s.book.book s.lines.items (past_of s.past.items) (told_places s.told.items) s.clock).world) c.self.view_is
    (cut_acted s.terminal s.hears s.hub s.book.book s.issued s.lines.items (past_of s.past.items) (told_places s.told.items) s.clock c.self.invariant c.args.event c.requires.silent c.requires.no_message c.event-lost.new.self (c.event-lost.ensures.settings ∙ c.event.ensures.settings)
    (c.event-lost.ensures.log.0 ∙ c.event.ensures.log.0) (c.event-lost.ensures.log.1 ∙ c.event.ensures.log.1) c.law_rule.ensures.cut
    (rule s.terminal.terminal.state c.args.event).steps [] (sym (append-nil (rule s.terminal.terminal.state c.args.event).steps)) (ok_of c.event-lost.result ok c.event-lost.ensures.vault ∙ c.in-Ok.ensures.vault)
    (down_is c.event.new.self.terminal.state c.event-lost.new.self.terminal.state (ok_of c.event-lost.result ok c.event-lost.ensures.state))))

pub returns-in-Err-clause-leads : goal.returns-in-Err-clause-leads
returns-in-Err-clause-leads c =
    let s = c.self.inside in
    let short = c.in-Err.ensures.cut in
    subst (λ (p : OrderPlay). Leads p.world (order_play_of c.event.new.self s.hub s.book.book s.lines.items (past_of s.past.items) (told_places s.told.items) s.clock).world) c.self.view_is
    (cut_acted s.terminal s.hears s.hub s.book.book s.issued s.lines.items (past_of s.past.items) (told_places s.told.items) s.clock c.self.invariant c.args.event c.requires.silent c.requires.no_message c.event.new.self c.event.ensures.settings c.event.ensures.log.0 c.event.ensures.log.1
    c.law_rule.ensures.cut short.done short.left short.parts short.held c.in-Err.ensures.down)

pub invariant_of-self : goal.invariant_of-self
invariant_of-self c =
    let s = c.self.inside in
    subst (λ (ls : List LineOfOrders). IsStage c.event.new.self s.hears s.hub s.book.book s.issued ls s.clock) (sym (c.send.ensures.sent c.if-send.true))
    (wrote_stage s.terminal s.hears s.hub s.book.book s.issued s.lines.items (past_of s.past.items) (told_places s.told.items) s.clock c.self.invariant c.args.event c.requires.silent c.requires.no_message c.event.new.self c.event.ensures.settings c.event.ensures.log.0 c.event.ensures.log.1
    c.event.ensures.sound c.event.ensures.limit (c.event.ensures.same (apart_of c.args.event c.requires.other))
    (record { late = subst (λ (n : ℕ). n ≤ s.clock) (sym c.event.ensures.time) (moment_after s.terminal.terminal.state s.clock c.args.event (subst (λ (p : OrderPlay). IsMoment p.clock c.args.event) (sym c.self.view_is) c.requires.moment) c.self.invariant.clock_is.late); small = c.self.invariant.clock_is.small })
    (flat_map (λ frame. frame) c.as_slice.result.now))

pub invariant_of-self-in-Ok : goal.invariant_of-self-in-Ok
invariant_of-self-in-Ok c =
    let s = c.self.inside in
    subst (λ (ls : List LineOfOrders). IsStage c.event-lost.new.self s.hears s.hub s.book.book s.issued ls s.clock) (sym (c.send.ensures.unsent c.if-send.false))
    (still_stage s.terminal s.hears s.hub s.book.book s.issued s.lines.items (past_of s.past.items) (told_places s.told.items) s.clock c.self.invariant c.args.event c.requires.silent c.requires.no_message c.event-lost.new.self (c.event-lost.ensures.settings ∙ c.event.ensures.settings)
    (c.event-lost.ensures.log.0 ∙ c.event.ensures.log.0) (c.event-lost.ensures.log.1 ∙ c.event.ensures.log.1)
    c.event-lost.ensures.sound (c.event-lost.ensures.limit ∙ c.event.ensures.limit) (c.event-lost.ensures.same (apart_of Lost tt) ∙ c.event.ensures.same (apart_of c.args.event c.requires.other))
    (record { late = subst (λ (n : ℕ). n ≤ s.clock) (sym (c.event-lost.ensures.time ∙ c.event.ensures.time)) (moment_after s.terminal.terminal.state s.clock c.args.event (subst (λ (p : OrderPlay). IsMoment p.clock c.args.event) (sym c.self.view_is) c.requires.moment) c.self.invariant.clock_is.late); small = c.self.invariant.clock_is.small }))
