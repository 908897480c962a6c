use Rattle.std.proofs.Common.{false, ◌+◌, ◌<◌, ◌≡◌, List, [], ◌∷◌, ◌++◌, length, set, Some, arith, ap, sym, refl, ◌∙◌, subst}
use Rattle.std.specs.Prelude.{not}
use Rattle.std.specs.List.{flat_map}
use Rattle.std.proofs.lemmas.Bool.{false≢true}
use Rattle.std.proofs.lemmas.Option.{same_Some}
use Rattle.jt_store.specs.Memory.{Stock}
use Rattle.jt_terminal_rule.specs.declared.state.Event.TheVariants.{Lost}
use Rattle.jt_terminal_steps.specs.Running.{holds_after}
use Rattle.jt_order.specs.Memory.{LogStock}
use Rattle.jt_order.specs.declared.performed.Performed.{Performed}
use Rattle.jt_order_terminal.specs.Terminals.{Done, log_with}
use Rattle.jt_octets.specs.World.{Line, line_at, with_one_taken}
use Rattle.jt_play.specs.Holding.{lines_in, past_of, taken_on}
use Rattle.jt_play.proofs.Acting.{down_is, ok_of}
use Rattle.jt_play.proofs.Reading.{none_is}
use Rattle.jt_order_octets.specs.Reaching.{Leads, Reached}
use Rattle.jt_order_play.specs.Holding.{Hears, IsStage, LineOfOrders, order_play_of, plain_lines, told_places, wrote_last}
use Rattle.jt_order_play.specs.Playing.{OrderPlay, reads_one}
use Rattle.jt_order_play.specs.declared.stage.Told.{Told}
use Rattle.jt_order_play.proofs.Acting.{apart_of}
use Rattle.jt_order_play.proofs.Reading.{cut_accepted, cut_nothing, cut_performed, cut_unsent, does_next, hears_on, one_octet, order_next, read_stage, sent_next, stream_short, told_cut, told_is, unread_stage, whole_leads, whole_read, wrote_more}
use Rattle.jt_order_play.proofs.Standing.{fact_of, lt_of}
use Rattle.jt_order_play.proofs.stage.Stage.read_at.Goals as goal

pub feed-requires : goal.feed-requires
feed-requires c =
    let s = c.self.inside in
    record {
      short = stream_short (lines_in (plain_lines s.lines.items)) c.args.place s.terminal.stream (subst (λ (p : OrderPlay). length p.world.base.lines ≡ c.args.place + 1) (sym c.self.view_is) c.requires.last) (c.self.invariant.hearing c.if-not-self.false)
          (subst (λ (p : OrderPlay). (line_at p.world.base.lines c.args.place).down.taken + 1 < 9223372036854775808) (sym c.self.view_is) c.requires.short);
    }

-- the line that is passed on has an octet left
pub pass-requires : goal.pass-requires
pass-requires c =
    let s = c.self.inside in
    let past = past_of s.past.items in
    let told = told_places s.told.items in
    let many : c.args.place < length c.args.self.now.world.base.lines = let e = c.requires.last in omega (arith, e) in
    let lt = lt_of s.terminal s.hub s.book.book s.lines.items past told s.clock c.args.place c.args.self.now c.self.view_is many in
    record {
      left = fact_of (λ (l : Line). l.down.taken < length l.down.octets) s.terminal s.hears s.hub s.book.book s.issued s.lines.items past told s.clock c.args.place c.index_mut.result.now c.self.invariant c.args.self.now c.self.view_is lt c.index_mut.ensures.value c.requires.left;
      short = fact_of (λ (l : Line). l.down.taken + 1 < 9223372036854775808) s.terminal s.hears s.hub s.book.book s.issued s.lines.items past told s.clock c.args.place c.index_mut.result.now c.self.invariant c.args.self.now c.self.view_is lt c.index_mut.ensures.value c.requires.short;
    }

pub pass-requires-then-accepted : goal.pass-requires-then-accepted
pass-requires-then-accepted c =
    let s = c.self.inside in
    let past = past_of s.past.items in
    let told = told_places s.told.items in
    let many : c.args.place < length c.args.self.now.world.base.lines = let e = c.requires.last in omega (arith, e) in
    let lt = lt_of s.terminal s.hub s.book.book s.lines.items past told s.clock c.args.place c.args.self.now c.self.view_is many in
    record {
      left = fact_of (λ (l : Line). l.down.taken < length l.down.octets) s.terminal s.hears s.hub s.book.book s.issued s.lines.items past told s.clock c.args.place c.index_mut-then-accepted.result.now c.self.invariant c.args.self.now c.self.view_is lt c.index_mut-then-accepted.ensures.value c.requires.left;
      short = fact_of (λ (l : Line). l.down.taken + 1 < 9223372036854775808) s.terminal s.hears s.hub s.book.book s.issued s.lines.items past told s.clock c.args.place c.index_mut-then-accepted.result.now c.self.invariant c.args.self.now c.self.view_is lt c.index_mut-then-accepted.ensures.value c.requires.short;
    }

pub pass-requires-then-performed : goal.pass-requires-then-performed
pass-requires-then-performed c =
    let s = c.self.inside in
    let past = past_of s.past.items in
    let told = told_places s.told.items in
    let many : c.args.place < length c.args.self.now.world.base.lines = let e = c.requires.last in omega (arith, e) in
    let lt = lt_of s.terminal s.hub s.book.book s.lines.items past told s.clock c.args.place c.args.self.now c.self.view_is many in
    record {
      left = fact_of (λ (l : Line). l.down.taken < length l.down.octets) s.terminal s.hears s.hub s.book.book s.issued s.lines.items past told s.clock c.args.place c.index_mut-then-performed.result.now c.self.invariant c.args.self.now c.self.view_is lt c.index_mut-then-performed.ensures.value c.requires.left;
      short = fact_of (λ (l : Line). l.down.taken + 1 < 9223372036854775808) s.terminal s.hears s.hub s.book.book s.issued s.lines.items past told s.clock c.args.place c.index_mut-then-performed.result.now c.self.invariant c.args.self.now c.self.view_is lt c.index_mut-then-performed.ensures.value c.requires.short;
    }

-- read, and all was done
pub invariant_of-self-then-send : goal.invariant_of-self-then-send
invariant_of-self-then-send c =
    let s = c.self.inside in
    let laws = c.law_reading.ensures in
    let heard = c.self.invariant.hearing c.if-not-self.false in
    let past = past_of s.past.items in
    let seen = taken_on (lines_in (plain_lines s.lines.items)) in
    let facts = order_next s.terminal s.hears s.hub s.book.book s.issued s.lines.items past (told_places s.told.items) s.clock c.args.place c.next-octet.result c.index.result.now c.index_mut.result.now c.pass.new.self c.args.self.now c.self.invariant c.self.view_is c.requires.last c.requires.in_use c.requires.left c.index.ensures c.next-octet.ensures c.index_mut.ensures.value c.pass.ensures in
    subst (λ (ls : List LineOfOrders). IsStage c.feed.new.self c.is_none-self-inside.result s.hub s.book.book s.issued ls s.clock) (sym (c.send.ensures.sent c.if-send.true))
    (wrote_more c.feed.new.self c.is_none-self-inside.result s.hub s.book.book s.issued (set s.lines.items c.args.place c.pass.new.self) past (told_places s.told.items) s.clock
    (read_stage s.terminal s.hears s.hub s.book.book s.issued s.lines.items past s.told.items s.clock c.args.place c.next-octet.result c.pass.new.self c.self.invariant facts laws c.feed.new.self c.feed.ensures.same.settings (c.feed.ensures.stays_sound c.self.invariant.running.sound) c.feed.ensures.limit c.feed.ensures.same.time c.feed.ensures.ledger c.is_none-self-inside.result
    (hears_on c.is_none-self-inside.result s.terminal.stream c.feed.new.self.stream seen c.next-octet.result (λ on. c.in-Ok.ensures.stands seen heard.stands facts.in_use (none_is c.in-Ok.actions.end (c.is_none-self-inside.ensures ∙ ap not on))) heard c.feed.ensures.place))
    (flat_map (λ frame. frame) c.as_slice-in-Ok.result.now))

pub returns-then-send-clause-whole : goal.returns-then-send-clause-whole
returns-then-send-clause-whole c =
    let s = c.self.inside in
    let laws = c.law_reading.ensures in
    let heard = c.self.invariant.hearing c.if-not-self.false in
    let past = past_of s.past.items in
    let seen = taken_on (lines_in (plain_lines s.lines.items)) in
    let facts = order_next s.terminal s.hears s.hub s.book.book s.issued s.lines.items past (told_places s.told.items) s.clock c.args.place c.next-octet.result c.index.result.now c.index_mut.result.now c.pass.new.self c.args.self.now c.self.invariant c.self.view_is c.requires.last c.requires.in_use c.requires.left c.index.ensures c.next-octet.ensures c.index_mut.ensures.value c.pass.ensures in
    let are = one_octet seen c.next-octet.result heard.stands.octets (omega arith) in
    let reached = subst (λ (p : OrderPlay). ∥ Reached p.world ∥₁) (sym c.self.view_is) c.requires.reached in
    let sent = sent_next s.terminal.terminal s.hub s.lines.items c.args.place c.next-octet.result c.index_mut.result.now c.pass.new.self facts c.index_mut.ensures.value (ap (λ (l : LineOfOrders). l.sent) c.pass.ensures) in
    let does = does_next s.terminal s.hears s.hub s.book.book s.issued s.lines.items past s.told.items s.clock c.args.place c.next-octet.result c.pass.new.self c.self.invariant facts laws in
    let did = c.in-Ok.ensures.state seen heard.stands in
    let says = c.in-Ok.ensures.actions seen heard.stands in
    let logged = same_Some _ _ (did.3 ∙ ap (λ (d : Done). log_with d.performed (Some s.terminal.log.performed)) does) in
    whole_read s.terminal s.hears s.hub s.book.book s.issued s.lines.items past s.told.items s.clock c.args.place c.next-octet.result c.pass.new.self c.self.invariant facts laws are reached sent c.feed.new.self c.feed.ensures.same.settings c.feed.ensures.ledger logged c.send.new.lines.items (told_places c.note_told.new.told.items)
    (did.0 ∙ ap (λ (d : Done). d.state) does) (did.2 ∙ ap (λ (d : Done). holds_after d.steps (Some s.terminal.terminal.vault.held)) does)
    (c.send.ensures.sent c.if-send.true ∙ ap (λ frames. wrote_last (set s.lines.items c.args.place c.pass.new.self) (flat_map (λ frame. frame) frames)) (c.as_slice-in-Ok.ensures ∙ (says.0 ∙ ap (λ (d : Done). d.frames) does)))
    (told_is s.terminal s.hears s.hub s.book.book s.issued s.lines.items past s.told.items s.clock c.args.place c.next-octet.result c.pass.new.self c.self.invariant facts laws are reached sent c.feed.new.self c.feed.ensures.same.settings c.feed.ensures.ledger logged c.len-count.result c.accepted-accepted.result c.push.new.self.items c.note_told.new.told.items c.as_slice.result.now (c.len-count.ensures ∙ Prim.search)
    (c.accepted-accepted.ensures ∙ ap (λ (v : Stock). v.held.accepted) c.vault.ensures) c.in_ok-push.ensures.items c.note_told.ensures (c.as_slice.ensures ∙ (says.1 ∙ ap (λ (d : Done). d.told) does)))
    ∙ ap reads_one c.self.view_is

pub returns-then-send-clause-leads : goal.returns-then-send-clause-leads
returns-then-send-clause-leads c =
    let s = c.self.inside in
    let laws = c.law_reading.ensures in
    let heard = c.self.invariant.hearing c.if-not-self.false in
    let past = past_of s.past.items in
    let seen = taken_on (lines_in (plain_lines s.lines.items)) in
    let facts = order_next s.terminal s.hears s.hub s.book.book s.issued s.lines.items past (told_places s.told.items) s.clock c.args.place c.next-octet.result c.index.result.now c.index_mut.result.now c.pass.new.self c.args.self.now c.self.invariant c.self.view_is c.requires.last c.requires.in_use c.requires.left c.index.ensures c.next-octet.ensures c.index_mut.ensures.value c.pass.ensures in
    let are = one_octet seen c.next-octet.result heard.stands.octets (omega arith) in
    let reached = subst (λ (p : OrderPlay). ∥ Reached p.world ∥₁) (sym c.self.view_is) c.requires.reached in
    let sent = sent_next s.terminal.terminal s.hub s.lines.items c.args.place c.next-octet.result c.index_mut.result.now c.pass.new.self facts c.index_mut.ensures.value (ap (λ (l : LineOfOrders). l.sent) c.pass.ensures) in
    let does = does_next s.terminal s.hears s.hub s.book.book s.issued s.lines.items past s.told.items s.clock c.args.place c.next-octet.result c.pass.new.self c.self.invariant facts laws in
    let did = c.in-Ok.ensures.state seen heard.stands in
    let says = c.in-Ok.ensures.actions seen heard.stands in
    let logged = same_Some _ _ (did.3 ∙ ap (λ (d : Done). log_with d.performed (Some s.terminal.log.performed)) does) in
    subst (λ (p : OrderPlay). Leads p.world (order_play_of c.feed.new.self s.hub s.book.book c.send.new.lines.items past (told_places c.note_told.new.told.items) s.clock).world) c.self.view_is
    (whole_leads s.terminal s.hears s.hub s.book.book s.issued s.lines.items past s.told.items s.clock c.args.place c.next-octet.result c.pass.new.self c.self.invariant facts laws are reached sent c.feed.new.self c.feed.ensures.same.settings c.feed.ensures.ledger logged c.send.new.lines.items (told_places c.note_told.new.told.items)
    (did.0 ∙ ap (λ (d : Done). d.state) does) (did.2 ∙ ap (λ (d : Done). holds_after d.steps (Some s.terminal.terminal.vault.held)) does)
    (c.send.ensures.sent c.if-send.true ∙ ap (λ frames. wrote_last (set s.lines.items c.args.place c.pass.new.self) (flat_map (λ frame. frame) frames)) (c.as_slice-in-Ok.ensures ∙ (says.0 ∙ ap (λ (d : Done). d.frames) does)))
    (told_is s.terminal s.hears s.hub s.book.book s.issued s.lines.items past s.told.items s.clock c.args.place c.next-octet.result c.pass.new.self c.self.invariant facts laws are reached sent c.feed.new.self c.feed.ensures.same.settings c.feed.ensures.ledger logged c.len-count.result c.accepted-accepted.result c.push.new.self.items c.note_told.new.told.items c.as_slice.result.now (c.len-count.ensures ∙ Prim.search)
    (c.accepted-accepted.ensures ∙ ap (λ (v : Stock). v.held.accepted) c.vault.ensures) c.in_ok-push.ensures.items c.note_told.ensures (c.as_slice.ensures ∙ (says.1 ∙ ap (λ (d : Done). d.told) does))))

-- read, and no room for what is to be sent
pub invariant_of-self-in-Ok : goal.invariant_of-self-in-Ok
invariant_of-self-in-Ok c =
    let s = c.self.inside in
    let laws = c.law_reading.ensures in
    let heard = c.self.invariant.hearing c.if-not-self.false in
    let past = past_of s.past.items in
    let seen = taken_on (lines_in (plain_lines s.lines.items)) in
    let facts = order_next s.terminal s.hears s.hub s.book.book s.issued s.lines.items past (told_places s.told.items) s.clock c.args.place c.next-octet.result c.index.result.now c.index_mut.result.now c.pass.new.self c.args.self.now c.self.invariant c.self.view_is c.requires.last c.requires.in_use c.requires.left c.index.ensures c.next-octet.ensures c.index_mut.ensures.value c.pass.ensures in
    subst (λ (ls : List LineOfOrders). IsStage c.event-lost.new.self c.is_none-self-inside.result s.hub s.book.book s.issued ls s.clock) (sym (c.send.ensures.unsent c.if-send.false))
    (read_stage s.terminal s.hears s.hub s.book.book s.issued s.lines.items past s.told.items s.clock c.args.place c.next-octet.result c.pass.new.self c.self.invariant facts laws c.event-lost.new.self (c.event-lost.ensures.settings ∙ c.feed.ensures.same.settings) c.event-lost.ensures.sound (c.event-lost.ensures.limit ∙ c.feed.ensures.limit) (c.event-lost.ensures.time ∙ c.feed.ensures.same.time) c.event-lost.ensures.ledger c.is_none-self-inside.result
    (subst (λ z. Hears c.is_none-self-inside.result z (seen ++ c.next-octet.result ∷ [])) (sym (c.event-lost.ensures.same (apart_of Lost tt)))
    (hears_on c.is_none-self-inside.result s.terminal.stream c.feed.new.self.stream seen c.next-octet.result (λ on. c.in-Ok.ensures.stands seen heard.stands facts.in_use (none_is c.in-Ok.actions.end (c.is_none-self-inside.ensures ∙ ap not on))) heard c.feed.ensures.place)))

pub returns-else-send-clause-leads : goal.returns-else-send-clause-leads
returns-else-send-clause-leads c =
    let s = c.self.inside in
    let laws = c.law_reading.ensures in
    let heard = c.self.invariant.hearing c.if-not-self.false in
    let past = past_of s.past.items in
    let seen = taken_on (lines_in (plain_lines s.lines.items)) in
    let facts = order_next s.terminal s.hears s.hub s.book.book s.issued s.lines.items past (told_places s.told.items) s.clock c.args.place c.next-octet.result c.index.result.now c.index_mut.result.now c.pass.new.self c.args.self.now c.self.invariant c.self.view_is c.requires.last c.requires.in_use c.requires.left c.index.ensures c.next-octet.ensures c.index_mut.ensures.value c.pass.ensures in
    let are = one_octet seen c.next-octet.result heard.stands.octets (omega arith) in
    let reached = subst (λ (p : OrderPlay). ∥ Reached p.world ∥₁) (sym c.self.view_is) c.requires.reached in
    let sent = sent_next s.terminal.terminal s.hub s.lines.items c.args.place c.next-octet.result c.index_mut.result.now c.pass.new.self facts c.index_mut.ensures.value (ap (λ (l : LineOfOrders). l.sent) c.pass.ensures) in
    let does = does_next s.terminal s.hears s.hub s.book.book s.issued s.lines.items past s.told.items s.clock c.args.place c.next-octet.result c.pass.new.self c.self.invariant facts laws in
    let did = c.in-Ok.ensures.state seen heard.stands in
    let says = c.in-Ok.ensures.actions seen heard.stands in
    let ok = c.event-lost.ensures.lost refl in
    let logged = ap (λ (g : LogStock). g.performed) c.event-lost.ensures.log.0 ∙ same_Some _ _ (did.3 ∙ ap (λ (d : Done). log_with d.performed (Some s.terminal.log.performed)) does) in
    subst (λ (p : OrderPlay). Leads p.world (order_play_of c.event-lost.new.self s.hub s.book.book c.send.new.lines.items past (told_places c.note_told.new.told.items) s.clock).world) c.self.view_is
    (subst (λ (ls : List LineOfOrders). Leads (order_play_of s.terminal s.hub s.book.book s.lines.items past (told_places s.told.items) s.clock).world (order_play_of c.event-lost.new.self s.hub s.book.book ls past (told_places c.note_told.new.told.items) s.clock).world) (sym (c.send.ensures.unsent c.if-send.false))
    (cut_unsent s.terminal s.hears s.hub s.book.book s.issued s.lines.items past s.told.items s.clock c.args.place c.next-octet.result c.pass.new.self c.self.invariant facts laws are reached sent c.event-lost.new.self (c.event-lost.ensures.settings ∙ c.feed.ensures.same.settings) c.event-lost.ensures.ledger logged (told_places c.note_told.new.told.items)
    (told_is s.terminal s.hears s.hub s.book.book s.issued s.lines.items past s.told.items s.clock c.args.place c.next-octet.result c.pass.new.self c.self.invariant facts laws are reached sent c.event-lost.new.self (c.event-lost.ensures.settings ∙ c.feed.ensures.same.settings) c.event-lost.ensures.ledger logged c.len-count.result c.accepted-accepted.result c.push.new.self.items c.note_told.new.told.items c.as_slice.result.now (c.len-count.ensures ∙ Prim.search)
    (c.accepted-accepted.ensures ∙ ap (λ (v : Stock). v.held.accepted) c.vault.ensures) c.in_ok-push.ensures.items c.note_told.ensures (c.as_slice.ensures ∙ (says.1 ∙ ap (λ (d : Done). d.told) does)))
    (ok_of c.event-lost.result ok c.event-lost.ensures.vault ∙ (did.2 ∙ ap (λ (d : Done). holds_after d.steps (Some s.terminal.terminal.vault.held)) does))
    (down_is c.feed.new.self.terminal.state c.event-lost.new.self.terminal.state (ok_of c.event-lost.result ok c.event-lost.ensures.state))))

-- cut short, and read with its acceptance
pub invariant_of-self-then-accepted : goal.invariant_of-self-then-accepted
invariant_of-self-then-accepted c =
    let s = c.self.inside in
    let laws = c.law_reading.ensures in
    let heard = c.self.invariant.hearing c.if-not-self.false in
    let past = past_of s.past.items in
    let seen = taken_on (lines_in (plain_lines s.lines.items)) in
    let facts = order_next s.terminal s.hears s.hub s.book.book s.issued s.lines.items past (told_places s.told.items) s.clock c.args.place c.next-octet.result c.index.result.now c.index_mut-then-accepted.result.now c.pass-then-accepted.new.self c.args.self.now c.self.invariant c.self.view_is c.requires.last c.requires.in_use c.requires.left c.index.ensures c.next-octet.ensures c.index_mut-then-accepted.ensures.value c.pass-then-accepted.ensures in
    read_stage s.terminal s.hears s.hub s.book.book s.issued s.lines.items past s.told.items s.clock c.args.place c.next-octet.result c.pass-then-accepted.new.self c.self.invariant facts laws c.feed.new.self c.feed.ensures.same.settings (c.feed.ensures.stays_sound c.self.invariant.running.sound) c.feed.ensures.limit c.feed.ensures.same.time c.feed.ensures.ledger false (λ on. absurd (false≢true on))

pub returns-then-accepted-clause-leads : goal.returns-then-accepted-clause-leads
returns-then-accepted-clause-leads c =
    let s = c.self.inside in
    let laws = c.law_reading.ensures in
    let heard = c.self.invariant.hearing c.if-not-self.false in
    let past = past_of s.past.items in
    let seen = taken_on (lines_in (plain_lines s.lines.items)) in
    let facts = order_next s.terminal s.hears s.hub s.book.book s.issued s.lines.items past (told_places s.told.items) s.clock c.args.place c.next-octet.result c.index.result.now c.index_mut-then-accepted.result.now c.pass-then-accepted.new.self c.args.self.now c.self.invariant c.self.view_is c.requires.last c.requires.in_use c.requires.left c.index.ensures c.next-octet.ensures c.index_mut-then-accepted.ensures.value c.pass-then-accepted.ensures in
    let are = one_octet seen c.next-octet.result heard.stands.octets (omega arith) in
    let reached = subst (λ (p : OrderPlay). ∥ Reached p.world ∥₁) (sym c.self.view_is) c.requires.reached in
    let sent = sent_next s.terminal.terminal s.hub s.lines.items c.args.place c.next-octet.result c.index_mut-then-accepted.result.now c.pass-then-accepted.new.self facts c.index_mut-then-accepted.ensures.value (ap (λ (l : LineOfOrders). l.sent) c.pass-then-accepted.ensures) in
    let does = does_next s.terminal s.hears s.hub s.book.book s.issued s.lines.items past s.told.items s.clock c.args.place c.next-octet.result c.pass-then-accepted.new.self c.self.invariant facts laws in
    let short = c.in-Err.ensures.cut seen heard.stands in
    let took = c.in-Err.ensures.commits seen heard.stands in
    let counted = c.accepted-accepted.ensures ∙ ap (λ (v : Stock). v.held.accepted) c.vault.ensures in
    subst (λ (p : OrderPlay). Leads p.world (order_play_of c.feed.new.self s.hub s.book.book (set s.lines.items c.args.place c.pass-then-accepted.new.self) past (told_places c.push.new.self.items) s.clock).world) c.self.view_is
    (subst (λ (l : List Told). Leads (order_play_of s.terminal s.hub s.book.book s.lines.items past (told_places s.told.items) s.clock).world (order_play_of c.feed.new.self s.hub s.book.book (set s.lines.items c.args.place c.pass-then-accepted.new.self) past (told_places l) s.clock).world) (sym c.in_ok-push.ensures.items)
    (cut_accepted s.terminal s.hears s.hub s.book.book s.issued s.lines.items past s.told.items s.clock c.args.place c.next-octet.result c.pass-then-accepted.new.self c.self.invariant facts laws are reached sent c.feed.new.self c.feed.ensures.same.settings c.feed.ensures.ledger short.done short.left (ap (λ (d : Done). d.steps) (sym does) ∙ short.parts) short.held c.in-Err.ensures.down took.gained took.left (ap (λ (d : Done). d.performed) (sym does) ∙ took.parts) (same_Some _ _ took.held) c.accepted-accepted.result counted (λ e. c.if-accepted.true (c.accepted.ensures ∙ (ap (λ (v : Stock). v.held.accepted) c.vault-in-Err.ensures ∙ (e ∙ sym counted))))))

-- cut short, and read with an order that was performed
pub invariant_of-self-then-performed : goal.invariant_of-self-then-performed
invariant_of-self-then-performed c =
    let s = c.self.inside in
    let laws = c.law_reading.ensures in
    let heard = c.self.invariant.hearing c.if-not-self.false in
    let past = past_of s.past.items in
    let seen = taken_on (lines_in (plain_lines s.lines.items)) in
    let facts = order_next s.terminal s.hears s.hub s.book.book s.issued s.lines.items past (told_places s.told.items) s.clock c.args.place c.next-octet.result c.index.result.now c.index_mut-then-performed.result.now c.pass-then-performed.new.self c.args.self.now c.self.invariant c.self.view_is c.requires.last c.requires.in_use c.requires.left c.index.ensures c.next-octet.ensures c.index_mut-then-performed.ensures.value c.pass-then-performed.ensures in
    read_stage s.terminal s.hears s.hub s.book.book s.issued s.lines.items past s.told.items s.clock c.args.place c.next-octet.result c.pass-then-performed.new.self c.self.invariant facts laws c.feed.new.self c.feed.ensures.same.settings (c.feed.ensures.stays_sound c.self.invariant.running.sound) c.feed.ensures.limit c.feed.ensures.same.time c.feed.ensures.ledger false (λ on. absurd (false≢true on))

pub returns-then-performed-clause-leads : goal.returns-then-performed-clause-leads
returns-then-performed-clause-leads c =
    let s = c.self.inside in
    let laws = c.law_reading.ensures in
    let heard = c.self.invariant.hearing c.if-not-self.false in
    let past = past_of s.past.items in
    let seen = taken_on (lines_in (plain_lines s.lines.items)) in
    let facts = order_next s.terminal s.hears s.hub s.book.book s.issued s.lines.items past (told_places s.told.items) s.clock c.args.place c.next-octet.result c.index.result.now c.index_mut-then-performed.result.now c.pass-then-performed.new.self c.args.self.now c.self.invariant c.self.view_is c.requires.last c.requires.in_use c.requires.left c.index.ensures c.next-octet.ensures c.index_mut-then-performed.ensures.value c.pass-then-performed.ensures in
    let are = one_octet seen c.next-octet.result heard.stands.octets (omega arith) in
    let reached = subst (λ (p : OrderPlay). ∥ Reached p.world ∥₁) (sym c.self.view_is) c.requires.reached in
    let sent = sent_next s.terminal.terminal s.hub s.lines.items c.args.place c.next-octet.result c.index_mut-then-performed.result.now c.pass-then-performed.new.self facts c.index_mut-then-performed.ensures.value (ap (λ (l : LineOfOrders). l.sent) c.pass-then-performed.ensures) in
    let does = does_next s.terminal s.hears s.hub s.book.book s.issued s.lines.items past s.told.items s.clock c.args.place c.next-octet.result c.pass-then-performed.new.self c.self.invariant facts laws in
    let short = c.in-Err.ensures.cut seen heard.stands in
    let took = c.in-Err.ensures.commits seen heard.stands in
    let counted = c.accepted-accepted.ensures ∙ ap (λ (v : Stock). v.held.accepted) c.vault.ensures in
    subst (λ (p : OrderPlay). Leads p.world (order_play_of c.feed.new.self s.hub s.book.book (set s.lines.items c.args.place c.pass-then-performed.new.self) past (told_places c.truncate.new.self.items) s.clock).world) c.self.view_is
    (cut_performed s.terminal s.hears s.hub s.book.book s.issued s.lines.items past s.told.items s.clock c.args.place c.next-octet.result c.pass-then-performed.new.self c.self.invariant facts laws are reached sent c.feed.new.self c.feed.ensures.same.settings c.feed.ensures.ledger short.done short.left (ap (λ (d : Done). d.steps) (sym does) ∙ short.parts) short.held c.in-Err.ensures.down took.gained took.left (ap (λ (d : Done). d.performed) (sym does) ∙ took.parts) (same_Some _ _ took.held) (told_places c.truncate.new.self.items) (told_cut s.told.items c.push.new.self.items c.truncate.new.self.items (record { accepted = c.accepted-accepted.result; older = 0 }) c.len-count.result c.in_ok-push.ensures.items (c.len-count.ensures ∙ Prim.search) c.truncate.ensures.items) (λ e. c.if-performed.true (ap (λ (l : List Performed). length l) (c.performed.ensures ∙ ap (λ (g : LogStock). g.performed) c.log-in-Err.ensures.log) ∙ (e ∙ sym (ap (λ (l : List Performed). length l) (c.performed-performed.ensures ∙ ap (λ (g : LogStock). g.performed) c.log.ensures.log))))))

-- cut short, and not read
pub invariant_of-self-else-performed : goal.invariant_of-self-else-performed
invariant_of-self-else-performed c =
    let s = c.self.inside in
    let laws = c.law_reading.ensures in
    let past = past_of s.past.items in
    let facts = order_next s.terminal s.hears s.hub s.book.book s.issued s.lines.items past (told_places s.told.items) s.clock c.args.place c.next-octet.result c.index.result.now c.index.result.now (record c.index.result.now { plain = record c.index.result.now.plain { line = record c.index.result.now.plain.line { down = with_one_taken c.index.result.now.plain.line.down } } }) c.args.self.now c.self.invariant c.self.view_is c.requires.last c.requires.in_use c.requires.left c.index.ensures c.next-octet.ensures c.index.ensures refl in
    unread_stage s.terminal s.hears s.hub s.book.book s.issued s.lines.items past s.told.items s.clock c.args.place c.next-octet.result (record c.index.result.now { plain = record c.index.result.now.plain { line = record c.index.result.now.plain.line { down = with_one_taken c.index.result.now.plain.line.down } } }) c.self.invariant facts laws c.feed.new.self c.feed.ensures.same.settings (c.feed.ensures.stays_sound c.self.invariant.running.sound) c.feed.ensures.limit c.feed.ensures.same.time c.feed.ensures.ledger

pub returns-else-performed-clause-leads : goal.returns-else-performed-clause-leads
returns-else-performed-clause-leads c =
    let s = c.self.inside in
    let laws = c.law_reading.ensures in
    let heard = c.self.invariant.hearing c.if-not-self.false in
    let past = past_of s.past.items in
    let seen = taken_on (lines_in (plain_lines s.lines.items)) in
    let facts = order_next s.terminal s.hears s.hub s.book.book s.issued s.lines.items past (told_places s.told.items) s.clock c.args.place c.next-octet.result c.index.result.now c.index.result.now (record c.index.result.now { plain = record c.index.result.now.plain { line = record c.index.result.now.plain.line { down = with_one_taken c.index.result.now.plain.line.down } } }) c.args.self.now c.self.invariant c.self.view_is c.requires.last c.requires.in_use c.requires.left c.index.ensures c.next-octet.ensures c.index.ensures refl in
    let are = one_octet seen c.next-octet.result heard.stands.octets (omega arith) in
    let reached = subst (λ (p : OrderPlay). ∥ Reached p.world ∥₁) (sym c.self.view_is) c.requires.reached in
    let sent = sent_next s.terminal.terminal s.hub s.lines.items c.args.place c.next-octet.result c.index.result.now (record c.index.result.now { plain = record c.index.result.now.plain { line = record c.index.result.now.plain.line { down = with_one_taken c.index.result.now.plain.line.down } } }) facts c.index.ensures refl in
    let does = does_next s.terminal s.hears s.hub s.book.book s.issued s.lines.items past s.told.items s.clock c.args.place c.next-octet.result (record c.index.result.now { plain = record c.index.result.now.plain { line = record c.index.result.now.plain.line { down = with_one_taken c.index.result.now.plain.line.down } } }) c.self.invariant facts laws in
    let short = c.in-Err.ensures.cut seen heard.stands in
    let took = c.in-Err.ensures.commits seen heard.stands in
    let counted = c.accepted-accepted.ensures ∙ ap (λ (v : Stock). v.held.accepted) c.vault.ensures in
    subst (λ (p : OrderPlay). Leads p.world (order_play_of c.feed.new.self s.hub s.book.book s.lines.items past (told_places c.truncate.new.self.items) s.clock).world) c.self.view_is
    (cut_nothing s.terminal s.hears s.hub s.book.book s.issued s.lines.items past s.told.items s.clock c.args.place c.next-octet.result (record c.index.result.now { plain = record c.index.result.now.plain { line = record c.index.result.now.plain.line { down = with_one_taken c.index.result.now.plain.line.down } } }) c.self.invariant facts laws are reached sent c.feed.new.self c.feed.ensures.same.settings c.feed.ensures.ledger short.done short.left (ap (λ (d : Done). d.steps) (sym does) ∙ short.parts) short.held c.in-Err.ensures.down took.gained took.left (ap (λ (d : Done). d.performed) (sym does) ∙ took.parts) (same_Some _ _ took.held) (told_places c.truncate.new.self.items) (told_cut s.told.items c.push.new.self.items c.truncate.new.self.items (record { accepted = c.accepted-accepted.result; older = 0 }) c.len-count.result c.in_ok-push.ensures.items (c.len-count.ensures ∙ Prim.search) c.truncate.ensures.items) (ap (λ (v : Stock). v.held.accepted) (sym c.vault-in-Err.ensures) ∙ (sym c.accepted.ensures ∙ (c.if-accepted.false ∙ counted))) (sym (ap (λ (l : List Performed). length l) (c.performed.ensures ∙ ap (λ (g : LogStock). g.performed) c.log-in-Err.ensures.log)) ∙ (c.if-performed.false ∙ ap (λ (l : List Performed). length l) (c.performed-performed.ensures ∙ ap (λ (g : LogStock). g.performed) c.log.ensures.log))))
