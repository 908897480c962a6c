use Rattle.std.proofs.Common.{ℕ, ◌<◌, ◌≡◌, slice_set, true, length, subst, sym, ap, ◌∙◌}
use Rattle.std.proofs.lemmas.List.{get_or_read}
use Rattle.jt_octets.specs.Reaching.{Leads}
use Rattle.jt_play.specs.Holding.{Hears, Numbered, blank, lines_in, past_of, play_of, told_of}
use Rattle.jt_octets.specs.World.{Line}
use Rattle.jt_play.specs.Playing.{Play, cuts}
use Rattle.jt_play.proofs.Worlds.{cut_end_leads, cut_running, cut_taken, cut_whole, length_in, line_in}
use Rattle.jt_play.proofs.Wholes.{cuts_shut}
use Rattle.jt_play.proofs.stage.Stage.cut.Goals as goal

pub invariant_of-self : goal.invariant_of-self
invariant_of-self c =
    let s = c.self.inside in
    let lt : c.args.place < length s.lines.items = subst (λ (n : ℕ). c.args.place < n) (length_in s.lines.items) (subst (λ (p : Play). c.args.place < length p.world.lines) (sym c.self.view_is) c.requires.opened) in
    let opened : c.index_mut.result.now.line.is_open ≡ true = ap (λ (n : Numbered). n.line.is_open) (get_or_read s.lines.items c.args.place c.index_mut.result.now lt c.index_mut.ensures.value blank ∙ sym (get_or_read s.lines.items c.args.place c.index.result.now lt c.index.ensures blank)) ∙ (sym c.is_open.ensures ∙ c.if-is_open.true) in (
      cut_running s.terminal s.hub c.cut.new.hub s.lines.items (past_of s.past.items) (told_of s.told.items) s.clock c.args.place c.index_mut.result.now c.cut.new.self c.self.invariant.0 lt c.index_mut.ensures.value opened
          c.cut.ensures.line c.cut.ensures.entry c.cut.ensures.opening.0 c.cut.ensures.opening.1 c.cut.ensures.opening.2 c.cut.ensures.opening.3,
      subst (Hears s.hears s.ears) (sym (cut_taken s.terminal s.hub c.cut.new.hub s.lines.items (past_of s.past.items) (told_of s.told.items) s.clock c.args.place c.index_mut.result.now c.cut.new.self c.self.invariant.0 lt c.index_mut.ensures.value opened
          c.cut.ensures.line c.cut.ensures.entry c.cut.ensures.opening.0 c.cut.ensures.opening.1 c.cut.ensures.opening.2 c.cut.ensures.opening.3)) c.self.invariant.1,
      c.self.invariant.2,
    )

pub returns-then-is_open-clause-leads : goal.returns-then-is_open-clause-leads
returns-then-is_open-clause-leads c =
    let s = c.self.inside in
    let lt : c.args.place < length s.lines.items = subst (λ (n : ℕ). c.args.place < n) (length_in s.lines.items) (subst (λ (p : Play). c.args.place < length p.world.lines) (sym c.self.view_is) c.requires.opened) in
    let opened : c.index_mut.result.now.line.is_open ≡ true = ap (λ (n : Numbered). n.line.is_open) (get_or_read s.lines.items c.args.place c.index_mut.result.now lt c.index_mut.ensures.value blank ∙ sym (get_or_read s.lines.items c.args.place c.index.result.now lt c.index.ensures blank)) ∙ (sym c.is_open.ensures ∙ c.if-is_open.true) in
    subst (λ (p : Play). Leads p.world (play_of s.terminal c.cut.new.hub (slice_set s.lines.items c.args.place c.cut.new.self) (past_of s.past.items) (told_of s.told.items) s.clock).world) c.self.view_is
    (cut_end_leads s.terminal s.hub c.cut.new.hub s.lines.items (past_of s.past.items) (told_of s.told.items) s.clock c.args.place c.index_mut.result.now c.cut.new.self c.self.invariant.0 lt c.index_mut.ensures.value opened
    c.cut.ensures.line c.cut.ensures.entry c.cut.ensures.opening.0 c.cut.ensures.opening.1 c.cut.ensures.opening.2 c.cut.ensures.opening.3)

pub returns-then-is_open-clause-whole : goal.returns-then-is_open-clause-whole
returns-then-is_open-clause-whole c =
    let s = c.self.inside in
    let lt : c.args.place < length s.lines.items = subst (λ (n : ℕ). c.args.place < n) (length_in s.lines.items) (subst (λ (p : Play). c.args.place < length p.world.lines) (sym c.self.view_is) c.requires.opened) in
    let opened : c.index_mut.result.now.line.is_open ≡ true = ap (λ (n : Numbered). n.line.is_open) (get_or_read s.lines.items c.args.place c.index_mut.result.now lt c.index_mut.ensures.value blank ∙ sym (get_or_read s.lines.items c.args.place c.index.result.now lt c.index.ensures blank)) ∙ (sym c.is_open.ensures ∙ c.if-is_open.true) in
    subst (λ (p : Play). play_of s.terminal c.cut.new.hub (slice_set s.lines.items c.args.place c.cut.new.self) (past_of s.past.items) (told_of s.told.items) s.clock ≡ record p { world = cuts p.world c.args.place }) c.self.view_is
    (cut_whole s.terminal s.hub c.cut.new.hub s.lines.items (past_of s.past.items) (told_of s.told.items) s.clock c.args.place c.index_mut.result.now c.cut.new.self c.self.invariant.0 lt c.index_mut.ensures.value opened
    c.cut.ensures.line c.cut.ensures.entry c.cut.ensures.opening.0 c.cut.ensures.opening.1 c.cut.ensures.opening.2 c.cut.ensures.opening.3)

pub returns-else-is_open-clause-whole : goal.returns-else-is_open-clause-whole
returns-else-is_open-clause-whole c =
    let s = c.self.inside in
    let lt : c.args.place < length s.lines.items = subst (λ (n : ℕ). c.args.place < n) (length_in s.lines.items) (subst (λ (p : Play). c.args.place < length p.world.lines) (sym c.self.view_is) c.requires.opened) in
    let here = line_in s.lines.items c.args.place lt ∙ ap (λ (n : Numbered). n.line) (sym (get_or_read s.lines.items c.args.place c.index.result.now lt c.index.ensures blank)) in
    subst (λ (p : Play). p ≡ record p { world = cuts p.world c.args.place }) c.self.view_is
    (cuts_shut (play_of s.terminal s.hub s.lines.items (past_of s.past.items) (told_of s.told.items) s.clock) c.args.place (ap (λ (l : Line). l.is_open) here ∙ (sym c.is_open.ensures ∙ c.if-is_open.false)))
