use Rattle.std.proofs.Common.{◌≡◌, true, false, sym, ◌∙◌}
use Rattle.std.specs.Prelude.{is_none}
use Rattle.jt_octets.specs.World.{Line}
use Rattle.jt_play.specs.Holding.{past_of}
use Rattle.jt_order_play.specs.Holding.{told_places}
use Rattle.jt_order_play.proofs.Composing.{closes_on, closes_over}
use Rattle.jt_order_play.proofs.Standing.{fact_back, lt_of}
use Rattle.jt_order_play.proofs.stage.Stage.close.Goals as goal

pub returns-then-is_over-clause-whole : goal.returns-then-is_over-clause-whole
returns-then-is_over-clause-whole c =
    let s = c.self.inside in
    let past = past_of s.past.items in
    let told = told_places s.told.items in
    let lt = lt_of s.terminal s.hub s.book.book s.lines.items past told s.clock c.args.place c.args.self.now c.self.view_is c.requires.opened in
    c.cut.ensures.whole ∙ closes_over c.args.self.now c.args.place c.requires.is_open
    (fact_back (λ (l : Line). is_none l.session ≡ true) s.terminal s.hears s.hub s.book.book s.issued s.lines.items past told s.clock c.args.place c.index.result.now c.self.invariant c.args.self.now c.self.view_is lt c.index.ensures (sym c.is_over.ensures ∙ c.if-is_over.true))

pub returns-else-is_over-clause-whole : goal.returns-else-is_over-clause-whole
returns-else-is_over-clause-whole c =
    let s = c.self.inside in
    let past = past_of s.past.items in
    let told = told_places s.told.items in
    let lt = lt_of s.terminal s.hub s.book.book s.lines.items past told s.clock c.args.place c.args.self.now c.self.view_is c.requires.opened in
    closes_on c.args.self.now c.args.place
    (fact_back (λ (l : Line). is_none l.session ≡ false) s.terminal s.hears s.hub s.book.book s.issued s.lines.items past told s.clock c.args.place c.index.result.now c.self.invariant c.args.self.now c.self.view_is lt c.index.ensures (sym c.is_over.ensures ∙ c.if-is_over.false))
