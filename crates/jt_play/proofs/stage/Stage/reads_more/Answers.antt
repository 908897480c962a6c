use Rattle.std.proofs.Common.{ℕ, ◌+◌, ◌-◌, ◌<◌, ◌≡◌, length, true, arith, ap, sym, ◌∙◌, subst}
use Rattle.std.proofs.lemmas.List.{get_or_read}
use Rattle.jt_platform.specs.History.{newest}
use Rattle.jt_octets.specs.World.{line_at}
use Rattle.jt_play.specs.Holding.{Numbered, blank, lines_in, past_of, play_of, told_of}
use Rattle.jt_play.specs.Playing.{Play, has_left, reads_more}
use Rattle.jt_play.proofs.Reading.{more_line}
use Rattle.jt_play.proofs.Worlds.{length_in, line_in}
use Rattle.jt_play.proofs.stage.Stage.reads_more.Goals as goal

pub returns : goal.returns
returns c =
    let s = c.self.inside in
    let count = c.len-count.result in
    let place = count - 1 in
    let many : count ≡ length s.lines.items = c.len-count.ensures ∙ Prim.search in
    let some = c.if-count-eq0.false in
    let lt : place < length s.lines.items = omega (arith, many, some) in
    let last : length (lines_in s.lines.items) ≡ place + 1 = let e = length_in s.lines.items in omega (arith, many, some, e) in
    let line = c.index.result.now.line in
    let here : line_at (lines_in s.lines.items) place ≡ line = line_in s.lines.items place lt ∙ ap (λ (n : Numbered). n.line) (sym (get_or_read s.lines.items place c.index.result.now lt c.index.ensures blank)) in
    c.has_down.ensures ∙ sym (subst (λ (p : Play). reads_more p ≡ has_left line.down) c.self.view_is
    (more_line (play_of s.terminal s.hub s.lines.items (past_of s.past.items) (told_of s.told.items) s.clock) place line last here (sym c.is_up.ensures ∙ c.if-not-is_up.false)))
