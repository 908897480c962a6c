use Rattle.std.proofs.Common.{ℕ, ◌+◌, ◌<◌, ◌≤◌, ◌≡◌, List, [], ◌∷◌, length, set, Some, ap, sym, refl, ◌∙◌, subst}
use Rattle.std.specs.Prelude.{not}
use Rattle.std.specs.List.{flat_map}
use Rattle.std.proofs.lemmas.Bool.{false≢true}
use Rattle.std.proofs.lemmas.List.{append-nil}
use Rattle.jt_store.specs.Memory.{Stock}
use Rattle.jt_terminal_rule.specs.Rule.{Ruled, sends}
use Rattle.jt_terminal_rule.specs.declared.settings.Settings.{Settings}
use Rattle.jt_terminal_steps.specs.Running.{holds_after}
use Rattle.jt_octets.proofs.Views.{StreamLaws}
use Rattle.jt_octets.specs.Reaching.{Leads}
use Rattle.jt_octets.specs.World.{line_at, with_one_taken}
use Rattle.jt_play.specs.Holding.{IsRunning, Numbered, lines_in, past_of, phone_in, play_of, recorded_in, taken_on, told_of, wrote_last}
use Rattle.jt_play.specs.Playing.{Play, reads_one}
use Rattle.jt_play.proofs.Acting.{down_is, ok_of, still_running, wrote_running}
use Rattle.jt_play.proofs.Reading.{cut_read, cut_told, cut_unread, ears_short, hears_on, is_next, mid_running, none_is, octet_leads, ruled, taken_mid, tells, told_cut, told_noted_now, whole_read}
use Rattle.jt_play.proofs.Rounds.{heard_next}
use Rattle.jt_play.proofs.Worlds.{taken_wrote}
use Rattle.jt_terminal_rule.specs.declared.state.Event.TheVariants.{Lost}
use Rattle.jt_play.proofs.Recording.{event_kept, octets_cut, octets_kept}
use Rattle.jt_play.proofs.stage.Stage.read_at.Goals as goal

pub feed-requires : goal.feed-requires
feed-requires c =
    let s = c.self.inside in
    ears_short (lines_in s.lines.items) c.args.place s.ears (subst (λ (p : Play). length p.world.lines ≡ c.args.place + 1) (sym c.self.view_is) c.requires.last) (c.self.invariant.1 c.if-not-self.false)
    (subst (λ (p : Play). (line_at p.world.lines c.args.place).down.taken + 1 < 9223372036854775808) (sym c.self.view_is) c.requires.short)

-- read, and all was done
pub invariant_of-self-then-send : goal.invariant_of-self-then-send
invariant_of-self-then-send c =
    let s = c.self.inside in
    let heard = c.self.invariant.1 c.if-not-self.false in
    let seen = taken_on (lines_in s.lines.items) in
    let facts = is_next s.terminal s.hub s.lines.items (past_of s.past.items) (told_of s.told.items) s.clock c.args.place c.next-octet.result c.index.result.now c.index_mut.result.now c.pass.new.self c.args.self.now c.self.invariant.0 c.self.view_is c.requires.last c.requires.in_use c.requires.left c.index.ensures
    c.next-octet.ensures c.index_mut.ensures.value c.pass.ensures in
    let streams : StreamLaws = record { front = c.law_front.ensures.unplaced; one = c.law_one_octet.ensures; frames = c.law_frames.ensures.frames; message = c.law_frames.ensures.message; long = c.law_of_contents.ensures.len } in
    let mid = set s.lines.items c.args.place c.pass.new.self in
    let octets = flat_map (λ frame. frame) c.as_slice-in-Ok.result.now in
    let lines_are : c.send.new.lines.items ≡ wrote_last mid octets = c.send.ensures.sent c.if-send.true in
    let base : IsRunning c.feed.new.terminal s.hub mid = mid_running s.terminal s.hub s.lines.items (past_of s.past.items) s.told.items s.clock c.args.place c.next-octet.result c.pass.new.self facts streams c.feed.new.terminal (still_running s.terminal s.hub s.lines.items (past_of s.past.items) (told_of s.told.items) s.clock c.self.invariant.0 c.feed.new.terminal c.feed.ensures.sound c.feed.ensures.settings c.feed.ensures.outside.limit) in (
      subst (λ (ls : List Numbered). IsRunning c.feed.new.terminal s.hub ls) (sym lines_are) (wrote_running c.feed.new.terminal s.hub mid (past_of s.past.items) (told_of s.told.items) s.clock base octets),
      hears_on c.is_none-self-inside.result s.ears c.feed.new.self seen c.next-octet.result (taken_on (lines_in c.send.new.lines.items))
          (λ on. c.in-Ok.ensures.stands seen heard.stands (none_is c.in-Ok.actions.end (c.is_none-self-inside.ensures ∙ ap not on))) heard c.feed.ensures.place
          (ap (λ (ls : List Numbered). taken_on (lines_in ls)) lines_are ∙ (taken_wrote mid octets ∙ taken_mid s.terminal s.hub s.lines.items (past_of s.past.items) s.told.items s.clock c.args.place c.next-octet.result c.pass.new.self facts streams)),
      (record { late = subst (λ (n : ℕ). n ≤ s.clock) (sym c.feed.ensures.time) c.self.invariant.2.late; small = c.self.invariant.2.small }),
    )

pub returns-then-send-clause-whole : goal.returns-then-send-clause-whole
returns-then-send-clause-whole c =
    let s = c.self.inside in
    let heard = c.self.invariant.1 c.if-not-self.false in
    let seen = taken_on (lines_in s.lines.items) in
    let facts = is_next s.terminal s.hub s.lines.items (past_of s.past.items) (told_of s.told.items) s.clock c.args.place c.next-octet.result c.index.result.now c.index_mut.result.now c.pass.new.self c.args.self.now c.self.invariant.0 c.self.view_is c.requires.last c.requires.in_use c.requires.left c.index.ensures
    c.next-octet.ensures c.index_mut.ensures.value c.pass.ensures in
    let streams : StreamLaws = record { front = c.law_front.ensures.unplaced; one = c.law_one_octet.ensures; frames = c.law_frames.ensures.frames; message = c.law_frames.ensures.message; long = c.law_of_contents.ensures.len } in
    let ruling = ruled s.terminal s.hub s.lines.items (past_of s.past.items) s.told.items s.clock c.args.place c.next-octet.result c.pass.new.self facts streams in
    whole_read s.terminal s.hub s.lines.items (past_of s.past.items) s.told.items s.clock c.args.place c.next-octet.result c.pass.new.self facts streams c.feed.new.terminal c.feed.ensures.settings c.law_rule.ensures.heard c.law_rule.ensures.settings c.send.new.lines.items (told_of c.note_told.new.told.items)
    (c.in-Ok.ensures.state seen heard.stands ∙ ap (λ (r : Ruled). r.state) ruling)
    (c.in-Ok.ensures.vault seen heard.stands ∙ ap (λ (r : Ruled). holds_after r.steps (Some s.terminal.vault.held)) ruling)
    (c.send.ensures.sent c.if-send.true ∙ ap (λ frames. wrote_last (set s.lines.items c.args.place c.pass.new.self) (flat_map (λ frame. frame) frames))
    (c.as_slice-in-Ok.ensures ∙ (c.in-Ok.ensures.frames seen heard.stands ∙ ap (λ (r : Ruled). sends s.terminal.state.settings r.steps) ruling)))
    (told_noted_now s.terminal s.hub s.lines.items (past_of s.past.items) s.told.items s.clock c.args.place c.next-octet.result c.pass.new.self facts streams c.feed.new.terminal c.feed.ensures.settings c.law_rule.ensures.told c.len-count.result c.accepted-accepted.result c.push.new.self.items c.note_told.new.told.items c.as_slice.result.now (c.len-count.ensures ∙ Prim.search)
    (c.accepted-accepted.ensures ∙ ap (λ (v : Stock). v.held.accepted) c.vault.ensures) c.in_ok-push.ensures.items c.note_told.ensures (c.as_slice.ensures ∙ (c.in-Ok.ensures.told seen heard.stands ∙ tells s.terminal s.hub s.lines.items (past_of s.past.items) s.told.items s.clock c.args.place c.next-octet.result c.pass.new.self facts streams)))
    ∙ ap (λ (p : Play). reads_one p) c.self.view_is

pub returns-then-send-clause-leads : goal.returns-then-send-clause-leads
returns-then-send-clause-leads c =
    let s = c.self.inside in
    let heard = c.self.invariant.1 c.if-not-self.false in
    let seen = taken_on (lines_in s.lines.items) in
    let facts = is_next s.terminal s.hub s.lines.items (past_of s.past.items) (told_of s.told.items) s.clock c.args.place c.next-octet.result c.index.result.now c.index_mut.result.now c.pass.new.self c.args.self.now c.self.invariant.0 c.self.view_is c.requires.last c.requires.in_use c.requires.left c.index.ensures
    c.next-octet.ensures c.index_mut.ensures.value c.pass.ensures in
    let streams : StreamLaws = record { front = c.law_front.ensures.unplaced; one = c.law_one_octet.ensures; frames = c.law_frames.ensures.frames; message = c.law_frames.ensures.message; long = c.law_of_contents.ensures.len } in
    subst (λ (p : Play). Leads c.args.self.now.world p.world) (sym (returns-then-send-clause-whole c))
    (subst (λ (p : Play). Leads p.world (reads_one p).world) c.self.view_is
    (octet_leads s.terminal s.hub s.lines.items (past_of s.past.items) s.told.items s.clock c.args.place c.next-octet.result c.pass.new.self facts streams c.feed.new.terminal c.feed.ensures.settings c.law_rule.ensures.heard c.law_rule.ensures.settings))

-- read, and no room for what is to be sent
pub invariant_of-self-in-Ok : goal.invariant_of-self-in-Ok
invariant_of-self-in-Ok c =
    let s = c.self.inside in
    let heard = c.self.invariant.1 c.if-not-self.false in
    let seen = taken_on (lines_in s.lines.items) in
    let facts = is_next s.terminal s.hub s.lines.items (past_of s.past.items) (told_of s.told.items) s.clock c.args.place c.next-octet.result c.index.result.now c.index_mut.result.now c.pass.new.self c.args.self.now c.self.invariant.0 c.self.view_is c.requires.last c.requires.in_use c.requires.left c.index.ensures
    c.next-octet.ensures c.index_mut.ensures.value c.pass.ensures in
    let streams : StreamLaws = record { front = c.law_front.ensures.unplaced; one = c.law_one_octet.ensures; frames = c.law_frames.ensures.frames; message = c.law_frames.ensures.message; long = c.law_of_contents.ensures.len } in
    let mid = set s.lines.items c.args.place c.pass.new.self in
    let lines_are : c.send.new.lines.items ≡ mid = c.send.ensures.unsent c.if-send.false in (
      subst (λ (ls : List Numbered). IsRunning c.event-lost.new.self s.hub ls) (sym lines_are)
          (mid_running s.terminal s.hub s.lines.items (past_of s.past.items) s.told.items s.clock c.args.place c.next-octet.result c.pass.new.self facts streams c.event-lost.new.self (still_running s.terminal s.hub s.lines.items (past_of s.past.items) (told_of s.told.items) s.clock c.self.invariant.0 c.event-lost.new.self c.event-lost.ensures.sound (c.event-lost.ensures.settings ∙ c.feed.ensures.settings) (c.event-lost.ensures.outside.limit ∙ c.feed.ensures.outside.limit))),
      hears_on c.is_none-self-inside.result s.ears c.feed.new.self seen c.next-octet.result (taken_on (lines_in c.send.new.lines.items))
          (λ on. c.in-Ok.ensures.stands seen heard.stands (none_is c.in-Ok.actions.end (c.is_none-self-inside.ensures ∙ ap not on))) heard c.feed.ensures.place
          (ap (λ (ls : List Numbered). taken_on (lines_in ls)) lines_are ∙ taken_mid s.terminal s.hub s.lines.items (past_of s.past.items) s.told.items s.clock c.args.place c.next-octet.result c.pass.new.self facts streams),
      (record { late = subst (λ (n : ℕ). n ≤ s.clock) (sym (c.event-lost.ensures.time ∙ c.feed.ensures.time)) c.self.invariant.2.late; small = c.self.invariant.2.small }),
    )

pub returns-else-send-clause-leads : goal.returns-else-send-clause-leads
returns-else-send-clause-leads c =
    let s = c.self.inside in
    let heard = c.self.invariant.1 c.if-not-self.false in
    let seen = taken_on (lines_in s.lines.items) in
    let facts = is_next s.terminal s.hub s.lines.items (past_of s.past.items) (told_of s.told.items) s.clock c.args.place c.next-octet.result c.index.result.now c.index_mut.result.now c.pass.new.self c.args.self.now c.self.invariant.0 c.self.view_is c.requires.last c.requires.in_use c.requires.left c.index.ensures
    c.next-octet.ensures c.index_mut.ensures.value c.pass.ensures in
    let streams : StreamLaws = record { front = c.law_front.ensures.unplaced; one = c.law_one_octet.ensures; frames = c.law_frames.ensures.frames; message = c.law_frames.ensures.message; long = c.law_of_contents.ensures.len } in
    let ok = c.event-lost.ensures.lost refl in
    let ruling = ruled s.terminal s.hub s.lines.items (past_of s.past.items) s.told.items s.clock c.args.place c.next-octet.result c.pass.new.self facts streams in
    let steps = (heard_next (play_of s.terminal s.hub s.lines.items (past_of s.past.items) (told_of s.told.items) s.clock)).steps in
    subst (λ (p : Play). Leads p.world (play_of c.event-lost.new.self s.hub c.send.new.lines.items (past_of s.past.items) (told_of c.note_told.new.told.items) s.clock).world) c.self.view_is
    (subst (λ (ls : List Numbered). Leads (play_of s.terminal s.hub s.lines.items (past_of s.past.items) (told_of s.told.items) s.clock).world (play_of c.event-lost.new.self s.hub ls (past_of s.past.items) (told_of c.note_told.new.told.items) s.clock).world) (sym (c.send.ensures.unsent c.if-send.false))
    (cut_read s.terminal s.hub s.lines.items (past_of s.past.items) s.told.items s.clock c.args.place c.next-octet.result c.pass.new.self facts streams c.event-lost.new.self (c.event-lost.ensures.settings ∙ c.feed.ensures.settings) c.law_rule.ensures.cut c.law_rule.ensures.heard_cut steps [] (sym (append-nil steps))
    (ok_of c.event-lost.result ok c.event-lost.ensures.vault ∙ (c.in-Ok.ensures.vault seen heard.stands ∙ ap (λ (r : Ruled). holds_after r.steps (Some s.terminal.vault.held)) ruling))
    (down_is c.feed.new.terminal.state c.event-lost.new.self.state (ok_of c.event-lost.result ok c.event-lost.ensures.state)) (told_of c.note_told.new.told.items)
    (told_noted_now s.terminal s.hub s.lines.items (past_of s.past.items) s.told.items s.clock c.args.place c.next-octet.result c.pass.new.self facts streams c.feed.new.terminal c.feed.ensures.settings c.law_rule.ensures.told c.len-count.result c.accepted-accepted.result c.push.new.self.items c.note_told.new.told.items c.as_slice.result.now (c.len-count.ensures ∙ Prim.search)
    (c.accepted-accepted.ensures ∙ ap (λ (v : Stock). v.held.accepted) c.vault.ensures) c.in_ok-push.ensures.items c.note_told.ensures (c.as_slice.ensures ∙ (c.in-Ok.ensures.told seen heard.stands ∙ tells s.terminal s.hub s.lines.items (past_of s.past.items) s.told.items s.clock c.args.place c.next-octet.result c.pass.new.self facts streams)))))

-- cut short, and not read
pub invariant_of-self-then-accepted : goal.invariant_of-self-then-accepted
invariant_of-self-then-accepted c =
    let s = c.self.inside in (
      still_running s.terminal s.hub s.lines.items (past_of s.past.items) (told_of s.told.items) s.clock c.self.invariant.0 c.feed.new.terminal c.feed.ensures.sound c.feed.ensures.settings c.feed.ensures.outside.limit,
      λ on. absurd (false≢true on),
      (record { late = subst (λ (n : ℕ). n ≤ s.clock) (sym c.feed.ensures.time) c.self.invariant.2.late; small = c.self.invariant.2.small }),
    )

pub returns-then-accepted-clause-leads : goal.returns-then-accepted-clause-leads
returns-then-accepted-clause-leads c =
    let s = c.self.inside in
    let heard = c.self.invariant.1 c.if-not-self.false in
    let seen = taken_on (lines_in s.lines.items) in
    let facts = is_next s.terminal s.hub s.lines.items (past_of s.past.items) (told_of s.told.items) s.clock c.args.place c.next-octet.result c.index.result.now c.index.result.now (record c.index.result.now { line = record c.index.result.now.line { down = with_one_taken c.index.result.now.line.down } }) c.args.self.now c.self.invariant.0 c.self.view_is c.requires.last c.requires.in_use c.requires.left c.index.ensures
    c.next-octet.ensures c.index.ensures refl in
    let streams : StreamLaws = record { front = c.law_front.ensures.unplaced; one = c.law_one_octet.ensures; frames = c.law_frames.ensures.frames; message = c.law_frames.ensures.message; long = c.law_of_contents.ensures.len } in
    let short = c.in-Err.ensures.cut seen heard.stands in
    subst (λ (p : Play). Leads p.world (play_of c.feed.new.terminal s.hub s.lines.items (past_of s.past.items) (told_of c.truncate.new.self.items) s.clock).world) c.self.view_is
    (cut_unread s.terminal s.hub s.lines.items (past_of s.past.items) s.told.items s.clock c.args.place c.next-octet.result (record c.index.result.now { line = record c.index.result.now.line { down = with_one_taken c.index.result.now.line.down } }) facts streams c.feed.new.terminal c.feed.ensures.settings c.law_rule.ensures.cut c.law_rule.ensures.heard_cut short.done short.left (ap (λ (r : Ruled). r.steps) (sym (ruled s.terminal s.hub s.lines.items (past_of s.past.items) s.told.items s.clock c.args.place c.next-octet.result (record c.index.result.now { line = record c.index.result.now.line { down = with_one_taken c.index.result.now.line.down } }) facts streams)) ∙ short.parts) short.held c.in-Err.ensures.down
    (told_of c.truncate.new.self.items) (told_cut s.told.items c.push.new.self.items c.truncate.new.self.items (record { accepted = c.accepted-accepted.result; older = 0 }) c.len-count.result c.in_ok-push.ensures.items (c.len-count.ensures ∙ Prim.search) c.truncate.ensures.items)
    (ap (λ (v : Stock). v.held.accepted) (sym c.vault-in-Err.ensures) ∙ (sym c.accepted.ensures ∙ (c.if-accepted.true ∙ (c.accepted-accepted.ensures ∙ ap (λ (v : Stock). v.held.accepted) c.vault.ensures)))))

-- cut short, and read
pub invariant_of-self-else-accepted : goal.invariant_of-self-else-accepted
invariant_of-self-else-accepted c =
    let s = c.self.inside in
    let heard = c.self.invariant.1 c.if-not-self.false in
    let seen = taken_on (lines_in s.lines.items) in
    let facts = is_next s.terminal s.hub s.lines.items (past_of s.past.items) (told_of s.told.items) s.clock c.args.place c.next-octet.result c.index.result.now c.index_mut-else-accepted.result.now c.pass-else-accepted.new.self c.args.self.now c.self.invariant.0 c.self.view_is c.requires.last c.requires.in_use c.requires.left c.index.ensures
    c.next-octet.ensures c.index_mut-else-accepted.ensures.value c.pass-else-accepted.ensures in
    let streams : StreamLaws = record { front = c.law_front.ensures.unplaced; one = c.law_one_octet.ensures; frames = c.law_frames.ensures.frames; message = c.law_frames.ensures.message; long = c.law_of_contents.ensures.len } in (
      mid_running s.terminal s.hub s.lines.items (past_of s.past.items) s.told.items s.clock c.args.place c.next-octet.result c.pass-else-accepted.new.self facts streams c.feed.new.terminal (still_running s.terminal s.hub s.lines.items (past_of s.past.items) (told_of s.told.items) s.clock c.self.invariant.0 c.feed.new.terminal c.feed.ensures.sound c.feed.ensures.settings c.feed.ensures.outside.limit),
      λ on. absurd (false≢true on),
      (record { late = subst (λ (n : ℕ). n ≤ s.clock) (sym c.feed.ensures.time) c.self.invariant.2.late; small = c.self.invariant.2.small }),
    )

pub returns-else-accepted-clause-leads : goal.returns-else-accepted-clause-leads
returns-else-accepted-clause-leads c =
    let s = c.self.inside in
    let heard = c.self.invariant.1 c.if-not-self.false in
    let seen = taken_on (lines_in s.lines.items) in
    let facts = is_next s.terminal s.hub s.lines.items (past_of s.past.items) (told_of s.told.items) s.clock c.args.place c.next-octet.result c.index.result.now c.index_mut-else-accepted.result.now c.pass-else-accepted.new.self c.args.self.now c.self.invariant.0 c.self.view_is c.requires.last c.requires.in_use c.requires.left c.index.ensures
    c.next-octet.ensures c.index_mut-else-accepted.ensures.value c.pass-else-accepted.ensures in
    let streams : StreamLaws = record { front = c.law_front.ensures.unplaced; one = c.law_one_octet.ensures; frames = c.law_frames.ensures.frames; message = c.law_frames.ensures.message; long = c.law_of_contents.ensures.len } in
    let short = c.in-Err.ensures.cut seen heard.stands in
    let parts = ap (λ (r : Ruled). r.steps) (sym (ruled s.terminal s.hub s.lines.items (past_of s.past.items) s.told.items s.clock c.args.place c.next-octet.result c.pass-else-accepted.new.self facts streams)) ∙ short.parts in
    let counted = c.accepted-accepted.ensures ∙ ap (λ (v : Stock). v.held.accepted) c.vault.ensures in
    subst (λ (p : Play). Leads p.world (play_of c.feed.new.terminal s.hub (set s.lines.items c.args.place c.pass-else-accepted.new.self) (past_of s.past.items) (told_of c.push.new.self.items) s.clock).world) c.self.view_is
    (cut_read s.terminal s.hub s.lines.items (past_of s.past.items) s.told.items s.clock c.args.place c.next-octet.result c.pass-else-accepted.new.self facts streams c.feed.new.terminal c.feed.ensures.settings c.law_rule.ensures.cut c.law_rule.ensures.heard_cut short.done short.left parts short.held c.in-Err.ensures.down (told_of c.push.new.self.items)
    (ap told_of c.in_ok-push.ensures.items
    ∙ cut_told s.terminal s.hub s.lines.items (past_of s.past.items) s.told.items s.clock c.args.place c.next-octet.result c.pass-else-accepted.new.self facts streams c.feed.new.terminal c.feed.ensures.settings c.law_rule.ensures.cut c.law_rule.ensures.heard_cut short.done short.left parts short.held c.in-Err.ensures.down c.accepted-accepted.result counted
    (λ e. c.if-accepted.false (c.accepted.ensures ∙ (ap (λ (v : Stock). v.held.accepted) c.vault-in-Err.ensures ∙ (e ∙ sym counted))))))

-- what was recorded
pub returns-then-send-clause-recorded : goal.returns-then-send-clause-recorded
returns-then-send-clause-recorded c =
    let s = c.self.inside in
    let seen = taken_on (lines_in s.lines.items) in
    octets_kept s.terminal.state seen (c.next-octet.result ∷ []) s.terminal.vault.held c.feed.new.terminal.vault.held (c.in-Ok.ensures.vault seen (c.self.invariant.1 c.if-not-self.false).stands) ∙ ap recorded_in c.self.view_is

pub returns-else-send-clause-recorded : goal.returns-else-send-clause-recorded
returns-else-send-clause-recorded c =
    let s = c.self.inside in
    let seen = taken_on (lines_in s.lines.items) in
    let mid = c.feed.new.terminal in
    event_kept mid.state Lost mid.vault.held c.event-lost.new.self.vault.held (ok_of c.event-lost.result (c.event-lost.ensures.lost refl) c.event-lost.ensures.vault)
    ∙ (octets_kept s.terminal.state seen (c.next-octet.result ∷ []) s.terminal.vault.held mid.vault.held (c.in-Ok.ensures.vault seen (c.self.invariant.1 c.if-not-self.false).stands) ∙ ap recorded_in c.self.view_is)

pub returns-then-accepted-clause-recorded : goal.returns-then-accepted-clause-recorded
returns-then-accepted-clause-recorded c =
    let s = c.self.inside in
    let seen = taken_on (lines_in s.lines.items) in
    octets_cut s.terminal.state seen (c.next-octet.result ∷ []) s.terminal.vault.held c.feed.new.terminal.vault.held (c.in-Err.ensures.cut seen (c.self.invariant.1 c.if-not-self.false).stands) ∙ ap recorded_in c.self.view_is

pub returns-else-accepted-clause-recorded : goal.returns-else-accepted-clause-recorded
returns-else-accepted-clause-recorded c =
    let s = c.self.inside in
    let seen = taken_on (lines_in s.lines.items) in
    octets_cut s.terminal.state seen (c.next-octet.result ∷ []) s.terminal.vault.held c.feed.new.terminal.vault.held (c.in-Err.ensures.cut seen (c.self.invariant.1 c.if-not-self.false).stands) ∙ ap recorded_in c.self.view_is

-- the phone stays
pub returns-then-send-clause-phone : goal.returns-then-send-clause-phone
returns-then-send-clause-phone c = ap (λ (s : Settings). s.phone) c.feed.ensures.settings ∙ ap phone_in c.self.view_is

pub returns-else-send-clause-phone : goal.returns-else-send-clause-phone
returns-else-send-clause-phone c = ap (λ (s : Settings). s.phone) (c.event-lost.ensures.settings ∙ c.feed.ensures.settings) ∙ ap phone_in c.self.view_is

pub returns-then-accepted-clause-phone : goal.returns-then-accepted-clause-phone
returns-then-accepted-clause-phone c = ap (λ (s : Settings). s.phone) c.feed.ensures.settings ∙ ap phone_in c.self.view_is

pub returns-else-accepted-clause-phone : goal.returns-else-accepted-clause-phone
returns-else-accepted-clause-phone c = ap (λ (s : Settings). s.phone) c.feed.ensures.settings ∙ ap phone_in c.self.view_is
