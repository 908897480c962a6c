use Rattle.std.proofs.Common.{◌≡◌, true, false, sym, ◌∙◌, subst, set, refl}
use Rattle.jt_octets.specs.World.{Line}
use Rattle.jt_order_octets.specs.Reaching.{Leads}
use Rattle.jt_play.specs.Holding.{past_of}
use Rattle.jt_order_play.specs.Holding.{order_play_of, told_places}
use Rattle.jt_order_play.specs.Playing.{OrderPlay, cuts, with_world}
use Rattle.jt_order_play.proofs.Composing.{cuts_shut}
use Rattle.jt_order_play.proofs.Cutting.{cut_leads, cut_stage, cut_whole, owed}
use Rattle.jt_order_play.proofs.Standing.{fact_back, fact_of, lt_of, put_many}
use Rattle.jt_order_play.proofs.stage.Stage.cut.Goals as goal

pub cut-requires : goal.cut-requires
cut-requires c =
    let s = c.self.inside in
    let past = past_of s.past.items in
    let told = told_places s.told.items in
    let lt = lt_of s.terminal s.hub s.book.book s.lines.items past told s.clock c.args.place c.args.self.now c.self.view_is c.requires.opened in
    let there = fact_back (λ (l : Line). l.is_open ≡ true) s.terminal s.hears s.hub s.book.book s.issued s.lines.items past told s.clock c.args.place c.index.result.now c.self.invariant c.args.self.now c.self.view_is lt c.index.ensures (sym c.is_open.ensures ∙ c.if-is_open.true) in
    let opened = fact_of (λ (l : Line). l.is_open ≡ true) s.terminal s.hears s.hub s.book.book s.issued s.lines.items past told s.clock c.args.place c.index_mut.result.now c.self.invariant c.args.self.now c.self.view_is lt c.index_mut.ensures.value there in
    owed s.terminal s.hears s.hub s.hub s.book.book s.issued s.lines.items past told s.clock c.args.place c.index_mut.result.now c.index_mut.result.now c.self.invariant lt c.index_mut.ensures.value opened c.index_mut.result.now.plain.number refl

pub invariant_of-self : goal.invariant_of-self
invariant_of-self c =
    let s = c.self.inside in
    let past = past_of s.past.items in
    let told = told_places s.told.items in
    let lt = lt_of s.terminal s.hub s.book.book s.lines.items past told s.clock c.args.place c.args.self.now c.self.view_is c.requires.opened in
    let there = fact_back (λ (l : Line). l.is_open ≡ true) s.terminal s.hears s.hub s.book.book s.issued s.lines.items past told s.clock c.args.place c.index.result.now c.self.invariant c.args.self.now c.self.view_is lt c.index.ensures (sym c.is_open.ensures ∙ c.if-is_open.true) in
    let opened = fact_of (λ (l : Line). l.is_open ≡ true) s.terminal s.hears s.hub s.book.book s.issued s.lines.items past told s.clock c.args.place c.index_mut.result.now c.self.invariant c.args.self.now c.self.view_is lt c.index_mut.ensures.value there in
    cut_stage s.terminal s.hears s.hub c.cut.new.hub s.book.book s.issued s.lines.items past told s.clock c.args.place c.index_mut.result.now c.cut.new.self c.self.invariant lt c.index_mut.ensures.value opened
    c.cut.ensures.line c.cut.ensures.entry c.cut.ensures.opening.0 c.cut.ensures.opening.1 c.cut.ensures.opening.2 c.cut.ensures.opening.3

pub returns-then-is_open-clause-leads : goal.returns-then-is_open-clause-leads
returns-then-is_open-clause-leads c =
    let s = c.self.inside in
    let past = past_of s.past.items in
    let told = told_places s.told.items in
    let lt = lt_of s.terminal s.hub s.book.book s.lines.items past told s.clock c.args.place c.args.self.now c.self.view_is c.requires.opened in
    let there = fact_back (λ (l : Line). l.is_open ≡ true) s.terminal s.hears s.hub s.book.book s.issued s.lines.items past told s.clock c.args.place c.index.result.now c.self.invariant c.args.self.now c.self.view_is lt c.index.ensures (sym c.is_open.ensures ∙ c.if-is_open.true) in
    let opened = fact_of (λ (l : Line). l.is_open ≡ true) s.terminal s.hears s.hub s.book.book s.issued s.lines.items past told s.clock c.args.place c.index_mut.result.now c.self.invariant c.args.self.now c.self.view_is lt c.index_mut.ensures.value there in
    subst (λ (p : OrderPlay). Leads p.world (order_play_of s.terminal c.cut.new.hub s.book.book (set s.lines.items c.args.place c.cut.new.self) past told s.clock).world) c.self.view_is
    (cut_leads s.terminal s.hears s.hub c.cut.new.hub s.book.book s.issued s.lines.items past told s.clock c.args.place c.index_mut.result.now c.cut.new.self c.self.invariant lt c.index_mut.ensures.value opened
    c.cut.ensures.line c.cut.ensures.entry c.cut.ensures.opening.0 c.cut.ensures.opening.1 c.cut.ensures.opening.2 c.cut.ensures.opening.3)

pub returns-then-is_open-clause-whole : goal.returns-then-is_open-clause-whole
returns-then-is_open-clause-whole c =
    let s = c.self.inside in
    let past = past_of s.past.items in
    let told = told_places s.told.items in
    let lt = lt_of s.terminal s.hub s.book.book s.lines.items past told s.clock c.args.place c.args.self.now c.self.view_is c.requires.opened in
    let there = fact_back (λ (l : Line). l.is_open ≡ true) s.terminal s.hears s.hub s.book.book s.issued s.lines.items past told s.clock c.args.place c.index.result.now c.self.invariant c.args.self.now c.self.view_is lt c.index.ensures (sym c.is_open.ensures ∙ c.if-is_open.true) in
    let opened = fact_of (λ (l : Line). l.is_open ≡ true) s.terminal s.hears s.hub s.book.book s.issued s.lines.items past told s.clock c.args.place c.index_mut.result.now c.self.invariant c.args.self.now c.self.view_is lt c.index_mut.ensures.value there in
    subst (λ (p : OrderPlay). order_play_of s.terminal c.cut.new.hub s.book.book (set s.lines.items c.args.place c.cut.new.self) past told s.clock ≡ with_world p (cuts p.world c.args.place)) c.self.view_is
    (cut_whole s.terminal s.hears s.hub c.cut.new.hub s.book.book s.issued s.lines.items past told s.clock c.args.place c.index_mut.result.now c.cut.new.self c.self.invariant lt c.index_mut.ensures.value opened
    c.cut.ensures.line c.cut.ensures.entry c.cut.ensures.opening.0 c.cut.ensures.opening.1 c.cut.ensures.opening.2 c.cut.ensures.opening.3)

pub returns-then-is_open-clause-count : goal.returns-then-is_open-clause-count
returns-then-is_open-clause-count c =
    let s = c.self.inside in
    put_many s.terminal s.hub c.cut.new.hub s.book.book s.book.book s.lines.items (past_of s.past.items) (told_places s.told.items) s.clock c.args.place c.cut.new.self c.args.self.now c.self.view_is

pub returns-else-is_open-clause-whole : goal.returns-else-is_open-clause-whole
returns-else-is_open-clause-whole c =
    let s = c.self.inside in
    let past = past_of s.past.items in
    let told = told_places s.told.items in
    let lt = lt_of s.terminal s.hub s.book.book s.lines.items past told s.clock c.args.place c.args.self.now c.self.view_is c.requires.opened in
    cuts_shut c.args.self.now c.args.place (fact_back (λ (l : Line). l.is_open ≡ false) s.terminal s.hears s.hub s.book.book s.issued s.lines.items past told s.clock c.args.place c.index.result.now c.self.invariant c.args.self.now c.self.view_is lt c.index.ensures (sym c.is_open.ensures ∙ c.if-is_open.false))
