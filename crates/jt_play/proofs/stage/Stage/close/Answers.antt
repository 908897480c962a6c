use Rattle.std.proofs.Common.{ℕ, ◌<◌, ◌≡◌, length, ap, sym, ◌∙◌, subst}
use Rattle.std.specs.Prelude.{is_none}
use Rattle.std.proofs.lemmas.List.{get_or_read}
use Rattle.jt_octets.specs.World.{Line, line_at}
use Rattle.jt_play.specs.Holding.{Numbered, blank}
use Rattle.jt_play.specs.Playing.{Play}
use Rattle.jt_play.proofs.Taken.{closes_on, closes_over}
use Rattle.jt_play.proofs.Worlds.{length_in, line_in}
use Rattle.jt_play.proofs.stage.Stage.close.Goals as goal

pub returns-then-is_over-clause-whole : goal.returns-then-is_over-clause-whole
returns-then-is_over-clause-whole c =
    let s = c.self.inside in
    let lt : c.args.place < length s.lines.items = subst (λ (n : ℕ). c.args.place < n) (length_in s.lines.items) (subst (λ (p : Play). c.args.place < length p.world.lines) (sym c.self.view_is) c.requires.opened) in
    let here = line_in s.lines.items c.args.place lt ∙ ap (λ (n : Numbered). n.line) (sym (get_or_read s.lines.items c.args.place c.index.result.now lt c.index.ensures blank)) in
    let over = ap (λ (l : Line). is_none l.session) here ∙ (sym c.is_over.ensures ∙ c.if-is_over.true) in
    c.cut.ensures.whole ∙ closes_over c.args.self.now c.args.place c.requires.is_open (ap (λ (p : Play). is_none (line_at p.world.lines c.args.place).session) (sym c.self.view_is) ∙ over)

pub returns-else-is_over-clause-whole : goal.returns-else-is_over-clause-whole
returns-else-is_over-clause-whole c =
    let s = c.self.inside in
    let lt : c.args.place < length s.lines.items = subst (λ (n : ℕ). c.args.place < n) (length_in s.lines.items) (subst (λ (p : Play). c.args.place < length p.world.lines) (sym c.self.view_is) c.requires.opened) in
    let here = line_in s.lines.items c.args.place lt ∙ ap (λ (n : Numbered). n.line) (sym (get_or_read s.lines.items c.args.place c.index.result.now lt c.index.ensures blank)) in
    let on = ap (λ (l : Line). is_none l.session) here ∙ (sym c.is_over.ensures ∙ c.if-is_over.false) in
    closes_on c.args.self.now c.args.place (ap (λ (p : Play). is_none (line_at p.world.lines c.args.place).session) (sym c.self.view_is) ∙ on)
