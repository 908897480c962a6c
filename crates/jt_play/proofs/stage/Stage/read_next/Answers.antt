use Rattle.std.proofs.Common.{◌+◌, ◌-◌, ◌<◌, ◌≡◌, length, true, arith, ap, sym, ◌∙◌, subst}
use Rattle.std.proofs.lemmas.List.{get_or_read}
use Rattle.std.proofs.lemmas.Bool.{and_parts}
use Rattle.jt_octets.specs.World.{Line, line_at, newest}
use Rattle.jt_play.specs.Holding.{Numbered, blank, lines_in}
use Rattle.jt_play.specs.Playing.{Play, has_left}
use Rattle.jt_play.proofs.Worlds.{length_in, line_in}
use Rattle.jt_play.proofs.stage.Stage.read_next.Goals as goal

pub read_at-requires : goal.read_at-requires
read_at-requires c =
    let s = c.self.inside in
    let count = c.len-count.result in
    let place = count - 1 in
    let many : count ≡ length s.lines.items = c.len-count.ensures ∙ Prim.search in
    let some = c.if-count-eq0.false in
    let lt : place < length s.lines.items = omega (arith, many, some) in
    let last : length (lines_in s.lines.items) ≡ place + 1 = let e = length_in s.lines.items in omega (arith, many, some, e) in
    let here : line_at (lines_in s.lines.items) place ≡ c.index.result.now.line = line_in s.lines.items place lt ∙ ap (λ (n : Numbered). n.line) (sym (get_or_read s.lines.items place c.index.result.now lt c.index.ensures blank)) in
    let may = c.may_read.ensures c.if-not-may_read.false in
    record {
      last = subst (λ (p : Play). length p.world.lines ≡ place + 1) c.self.view_is last;
      in_use = (and_parts c.args.self.now.world.terminal.using (has_left (newest c.args.self.now.world).down) (sym c.reads_more.ensures ∙ c.if-not-reads_more.false)).0;
      left = subst (λ (p : Play). (line_at p.world.lines place).down.taken < length (line_at p.world.lines place).down.octets) c.self.view_is (subst (λ (l : Line). l.down.taken < length l.down.octets) (sym here) may.0);
      short = subst (λ (p : Play). (line_at p.world.lines place).down.taken + 1 < 9223372036854775808) c.self.view_is (subst (λ (l : Line). l.down.taken + 1 < 9223372036854775808) (sym here) may.1);
    }

pub returns-clause-whole : goal.returns-clause-whole
returns-clause-whole c = (sym c.reads_more.ensures ∙ c.if-not-reads_more.false, c.in_ok-read_at.ensures.whole)
