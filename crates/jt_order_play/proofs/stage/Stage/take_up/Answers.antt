use Rattle.std.proofs.Common.{◌<◌, ◌≡◌, length, true, IsSome, ap, sym, ◌∙◌, subst, set}
use Rattle.jt_octets.specs.World.{Line, line_at}
use Rattle.jt_order_octets.specs.Reaching.{Leads, Reached}
use Rattle.jt_play.specs.Holding.{past_of}
use Rattle.jt_order_play.specs.Holding.{order_play_of, told_places}
use Rattle.jt_order_play.specs.Playing.{OrderPlay, takes_octet, with_world}
use Rattle.jt_order_play.proofs.Owning.{asks_fine, own_reached, took_whole}
use Rattle.jt_order_play.proofs.Standing.{closed_there, fact_of, lt_of, put_many, put_there, stands, took_leads, took_stage}
use Rattle.jt_order_play.proofs.stage.Stage.take_up.Goals as goal

pub take-requires : goal.take-requires
take-requires c =
    let s = c.self.inside in
    let past = past_of s.past.items in
    let told = told_places s.told.items in
    let old = c.index_mut.result.now in
    let lt = lt_of s.terminal s.hub s.book.book s.lines.items past told s.clock c.args.place c.args.self.now c.self.view_is c.requires.opened in
    let opened = fact_of (λ (l : Line). l.is_open ≡ true) s.terminal s.hears s.hub s.book.book s.issued s.lines.items past told s.clock c.args.place old c.self.invariant c.args.self.now c.self.view_is lt c.index_mut.ensures.value c.requires.is_open in
    record {
      opened = opened;
      going = fact_of (λ (l : Line). IsSome l.session) s.terminal s.hears s.hub s.book.book s.issued s.lines.items past told s.clock c.args.place old c.self.invariant c.args.self.now c.self.view_is lt c.index_mut.ensures.value c.requires.going;
      left = fact_of (λ (l : Line). l.up.taken < length l.up.octets) s.terminal s.hears s.hub s.book.book s.issued s.lines.items past told s.clock c.args.place old c.self.invariant c.args.self.now c.self.view_is lt c.index_mut.ensures.value c.requires.left;
      unclosed = closed_there s.terminal s.hears s.hub s.book.book s.issued s.lines.items past told s.clock c.args.place old c.self.invariant lt c.index_mut.ensures.value opened;
    }

pub returns-clause-leads : goal.returns-clause-leads
returns-clause-leads c =
    let s = c.self.inside in
    let past = past_of s.past.items in
    let told = told_places s.told.items in
    let old = c.index_mut.result.now in
    let lt = lt_of s.terminal s.hub s.book.book s.lines.items past told s.clock c.args.place c.args.self.now c.self.view_is c.requires.opened in
    let w = (order_play_of s.terminal s.hub s.book.book s.lines.items past told s.clock).world in
    let takes = c.take.ensures.takes w c.args.place (stands s.terminal s.hears s.hub s.book.book s.issued s.lines.items past told s.clock c.args.place old c.self.invariant lt c.index_mut.ensures.value) in
    subst (λ (p : OrderPlay). Leads p.world (order_play_of s.terminal c.take.new.hub c.take.new.book.book (set s.lines.items c.args.place c.take.new.self) past told s.clock).world) c.self.view_is
    (took_leads s.terminal s.hears s.hub s.book.book s.issued s.lines.items past told s.clock c.args.place old c.self.invariant lt c.index_mut.ensures.value c.take.new.hub c.take.new.book.book c.take.new.self c.take.result takes
    c.take.ensures.opening.0 c.take.ensures.opening.1 c.take.ensures.opening.2)

pub invariant_of-self : goal.invariant_of-self
invariant_of-self c =
    let s = c.self.inside in
    let past = past_of s.past.items in
    let told = told_places s.told.items in
    let old = c.index_mut.result.now in
    let lt = lt_of s.terminal s.hub s.book.book s.lines.items past told s.clock c.args.place c.args.self.now c.self.view_is c.requires.opened in
    let w = (order_play_of s.terminal s.hub s.book.book s.lines.items past told s.clock).world in
    let takes = c.take.ensures.takes w c.args.place (stands s.terminal s.hears s.hub s.book.book s.issued s.lines.items past told s.clock c.args.place old c.self.invariant lt c.index_mut.ensures.value) in
    took_stage s.terminal s.hears s.hub s.book.book s.issued s.lines.items past told s.clock c.args.place old c.self.invariant lt c.index_mut.ensures.value c.take.new.hub c.take.new.book.book c.take.new.self c.take.result takes
    c.take.ensures.opening.0 c.take.ensures.opening.1 c.take.ensures.opening.2 c.take.ensures.number c.take.ensures.opened
    (fact_of (λ (l : Line). l.is_open ≡ true) s.terminal s.hears s.hub s.book.book s.issued s.lines.items past told s.clock c.args.place old c.self.invariant c.args.self.now c.self.view_is lt c.index_mut.ensures.value c.requires.is_open)
    c.take.ensures.closed c.take.ensures.opening.3

pub returns-clause-is_open : goal.returns-clause-is_open
returns-clause-is_open c =
    let s = c.self.inside in
    let past = past_of s.past.items in
    let told = told_places s.told.items in
    let lt = lt_of s.terminal s.hub s.book.book s.lines.items past told s.clock c.args.place c.args.self.now c.self.view_is c.requires.opened in
    ap (λ (l : Line). l.is_open) (put_there s.terminal c.take.new.hub c.take.new.book.book s.lines.items past told s.clock c.args.place c.take.new.self lt) ∙ c.take.ensures.opened

pub returns-clause-count : goal.returns-clause-count
returns-clause-count c =
    let s = c.self.inside in
    put_many s.terminal s.hub c.take.new.hub s.book.book c.take.new.book.book s.lines.items (past_of s.past.items) (told_places s.told.items) s.clock c.args.place c.take.new.self c.args.self.now c.self.view_is

pub returns-clause-whole : goal.returns-clause-whole
returns-clause-whole c done =
    let s = c.self.inside in
    let past = past_of s.past.items in
    let told = told_places s.told.items in
    let old = c.index_mut.result.now in
    let lt = lt_of s.terminal s.hub s.book.book s.lines.items past told s.clock c.args.place c.args.self.now c.self.view_is c.requires.opened in
    let w = (order_play_of s.terminal s.hub s.book.book s.lines.items past told s.clock).world in
    let takes = c.take.ensures.takes w c.args.place (stands s.terminal s.hears s.hub s.book.book s.issued s.lines.items past told s.clock c.args.place old c.self.invariant lt c.index_mut.ensures.value) in
    let reached : ∥ Reached w ∥₁ = subst (λ (p : OrderPlay). ∥ Reached p.world ∥₁) (sym c.self.view_is) c.requires.reached in
    let within : c.args.place < length w.base.lines = subst (λ (p : OrderPlay). c.args.place < length p.world.base.lines) (sym c.self.view_is) c.requires.opened in
    let left = subst (λ (p : OrderPlay). (line_at p.world.base.lines c.args.place).up.taken < length (line_at p.world.base.lines c.args.place).up.octets) (sym c.self.view_is) c.requires.left in
    subst (λ (p : OrderPlay). order_play_of s.terminal c.take.new.hub c.take.new.book.book (set s.lines.items c.args.place c.take.new.self) past told s.clock ≡ with_world p (takes_octet p.world c.args.place (line_at p.world.base.lines c.args.place).session)) c.self.view_is
    (took_whole s.terminal s.hears s.hub s.book.book s.issued s.lines.items past told s.clock c.args.place old c.self.invariant lt c.index_mut.ensures.value c.take.new.hub c.take.new.book.book c.take.new.self c.take.result takes
    c.take.ensures.opening.0 c.take.ensures.opening.1 c.take.ensures.opening.2 c.law_answers.ensures c.law_histories.ensures
    (own_reached c.law_order_world.ensures.phone w reached) (asks_fine c.law_of_packets.ensures.named c.law_order_world.ensures.items w reached c.args.place within left) done)
