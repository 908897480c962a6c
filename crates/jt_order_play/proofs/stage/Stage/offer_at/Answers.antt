use Rattle.std.proofs.Common.{◌<◌, ◌≡◌, true, false, sym, ◌∙◌, subst, set}
use Rattle.jt_octets.specs.World.{Line}
use Rattle.jt_order_octets.specs.Reaching.{Leads}
use Rattle.jt_play.specs.Holding.{past_of}
use Rattle.jt_order_play.specs.Holding.{IsStage, order_play_of, told_places}
use Rattle.jt_order_play.specs.Playing.{OrderPlay, offers_at, with_world}
use Rattle.jt_order_play.proofs.Standing.{fact_back, fact_of, lt_of, offer_leads, offer_stage, offer_whole, put_many, quiet_whole, stands}
use Rattle.jt_order_play.proofs.stage.Stage.offer_at.Goals as goal

pub returns-then-not-is_open-clause-whole : goal.returns-then-not-is_open-clause-whole
returns-then-not-is_open-clause-whole c done =
    let s = c.self.inside in
    let past = past_of s.past.items in
    let told = told_places s.told.items in
    let lt = lt_of s.terminal s.hub s.book.book s.lines.items past told s.clock c.args.place c.args.self.now c.self.view_is c.requires.opened in
    quiet_whole c.args.self.now c.args.place (fact_back (λ (l : Line). l.is_open ≡ false) s.terminal s.hears s.hub s.book.book s.issued s.lines.items past told s.clock c.args.place c.index.result.now c.self.invariant c.args.self.now c.self.view_is lt c.index.ensures
    (sym c.is_open.ensures ∙ c.if-not-is_open.true))

pub offer-requires : goal.offer-requires
offer-requires c =
    let s = c.self.inside in
    let past = past_of s.past.items in
    let told = told_places s.told.items in
    let lt = lt_of s.terminal s.hub s.book.book s.lines.items past told s.clock c.args.place c.args.self.now c.self.view_is c.requires.opened in
    let there = fact_back (λ (l : Line). l.is_open ≡ true) s.terminal s.hears s.hub s.book.book s.issued s.lines.items past told s.clock c.args.place c.index.result.now c.self.invariant c.args.self.now c.self.view_is lt c.index.ensures
    (sym c.is_open.ensures ∙ c.if-not-is_open.false) in
    fact_of (λ (l : Line). l.is_open ≡ true) s.terminal s.hears s.hub s.book.book s.issued s.lines.items past told s.clock c.args.place c.index_mut.result.now c.self.invariant c.args.self.now c.self.view_is lt c.index_mut.ensures.value there

pub returns-clause-leads : goal.returns-clause-leads
returns-clause-leads c =
    let s = c.self.inside in
    let past = past_of s.past.items in
    let told = told_places s.told.items in
    let old = c.index_mut.result.now in
    let lt = lt_of s.terminal s.hub s.book.book s.lines.items past told s.clock c.args.place c.args.self.now c.self.view_is c.requires.opened in
    let w = (order_play_of s.terminal s.hub s.book.book s.lines.items past told s.clock).world in
    let offers = c.offer.ensures.offers w c.args.place (stands s.terminal s.hears s.hub s.book.book s.issued s.lines.items past told s.clock c.args.place old c.self.invariant lt c.index_mut.ensures.value) in
    subst (λ (p : OrderPlay). Leads p.world (order_play_of s.terminal s.hub c.offer.new.book.book (set s.lines.items c.args.place c.offer.new.self) past told s.clock).world) c.self.view_is
    (subst (λ b. Leads w (order_play_of s.terminal s.hub b (set s.lines.items c.args.place c.offer.new.self) past told s.clock).world) (sym c.offer.ensures.book)
    (offer_leads s.terminal s.hears s.hub s.book.book s.issued s.lines.items past told s.clock c.args.place old c.self.invariant lt c.index_mut.ensures.value c.offer.new.self c.offer.result offers))

pub returns-clause-whole : goal.returns-clause-whole
returns-clause-whole c done =
    let s = c.self.inside in
    let past = past_of s.past.items in
    let told = told_places s.told.items in
    let old = c.index_mut.result.now in
    let lt = lt_of s.terminal s.hub s.book.book s.lines.items past told s.clock c.args.place c.args.self.now c.self.view_is c.requires.opened in
    let w = (order_play_of s.terminal s.hub s.book.book s.lines.items past told s.clock).world in
    let offers = c.offer.ensures.offers w c.args.place (stands s.terminal s.hears s.hub s.book.book s.issued s.lines.items past told s.clock c.args.place old c.self.invariant lt c.index_mut.ensures.value) in
    subst (λ (p : OrderPlay). order_play_of s.terminal s.hub c.offer.new.book.book (set s.lines.items c.args.place c.offer.new.self) past told s.clock ≡ with_world p (offers_at c.args.place p.world)) c.self.view_is
    (subst (λ b. order_play_of s.terminal s.hub b (set s.lines.items c.args.place c.offer.new.self) past told s.clock ≡ with_world (order_play_of s.terminal s.hub s.book.book s.lines.items past told s.clock) (offers_at c.args.place w)) (sym c.offer.ensures.book)
    (offer_whole s.terminal s.hears s.hub s.book.book s.issued s.lines.items past told s.clock c.args.place old c.self.invariant lt c.index_mut.ensures.value c.offer.new.self c.offer.result offers done))

pub invariant_of-self : goal.invariant_of-self
invariant_of-self c =
    let s = c.self.inside in
    let past = past_of s.past.items in
    let told = told_places s.told.items in
    let old = c.index_mut.result.now in
    let lt = lt_of s.terminal s.hub s.book.book s.lines.items past told s.clock c.args.place c.args.self.now c.self.view_is c.requires.opened in
    let w = (order_play_of s.terminal s.hub s.book.book s.lines.items past told s.clock).world in
    let offers = c.offer.ensures.offers w c.args.place (stands s.terminal s.hears s.hub s.book.book s.issued s.lines.items past told s.clock c.args.place old c.self.invariant lt c.index_mut.ensures.value) in
    let there = fact_back (λ (l : Line). l.is_open ≡ true) s.terminal s.hears s.hub s.book.book s.issued s.lines.items past told s.clock c.args.place c.index.result.now c.self.invariant c.args.self.now c.self.view_is lt c.index.ensures
    (sym c.is_open.ensures ∙ c.if-not-is_open.false) in
    let opened = fact_of (λ (l : Line). l.is_open ≡ true) s.terminal s.hears s.hub s.book.book s.issued s.lines.items past told s.clock c.args.place c.index_mut.result.now c.self.invariant c.args.self.now c.self.view_is lt c.index_mut.ensures.value there in
    subst (λ b. IsStage s.terminal s.hears s.hub b s.issued (set s.lines.items c.args.place c.offer.new.self) s.clock) (sym c.offer.ensures.book)
    (offer_stage s.terminal s.hears s.hub s.book.book s.issued s.lines.items past told s.clock c.args.place old c.self.invariant lt c.index_mut.ensures.value c.offer.new.self c.offer.result offers c.offer.ensures.number c.offer.ensures.opened
    opened)

pub returns-clause-count : goal.returns-clause-count
returns-clause-count c =
    let s = c.self.inside in
    put_many s.terminal s.hub s.hub s.book.book c.offer.new.book.book s.lines.items (past_of s.past.items) (told_places s.told.items) s.clock c.args.place c.offer.new.self c.args.self.now c.self.view_is
