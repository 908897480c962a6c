use Rattle.std.proofs.Common.{ℕ, ◌<◌, ◌≡◌, length, ap, sym, ◌∙◌, subst}
use Rattle.std.proofs.lemmas.List.{get_or_read}
use Rattle.jt_octets.specs.World.{line_at}
use Rattle.jt_play.specs.Holding.{Numbered, blank}
use Rattle.jt_play.specs.Playing.{Play, goes_on}
use Rattle.jt_play.proofs.Worlds.{length_in, line_in}
use Rattle.jt_play.proofs.stage.Stage.takes_more.Goals as goal

pub returns : goal.returns
returns c =
    let s = c.self.inside in
    let lt : c.args.place < length s.lines.items = subst (λ (n : ℕ). c.args.place < n) (length_in s.lines.items) (subst (λ (p : Play). c.args.place < length p.world.lines) (sym c.self.view_is) c.requires.opened) in
    let here = line_in s.lines.items c.args.place lt ∙ ap (λ (n : Numbered). n.line) (sym (get_or_read s.lines.items c.args.place c.index.result.now lt c.index.ensures blank)) in
    c.may_take.ensures ∙ (sym (ap goes_on here) ∙ ap (λ (p : Play). goes_on (line_at p.world.lines c.args.place)) c.self.view_is)
