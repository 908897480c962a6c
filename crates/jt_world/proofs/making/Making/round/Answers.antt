use Rattle.std.proofs.Common.{◌∷◌, ◌++◌, subst, sym}
use Rattle.jt_world.specs.Made.{down_line, end_lines, round_end, tick_line, up_line}
use Rattle.jt_world.specs.Making.{Stands}
use Rattle.jt_world.specs.declared.making.RoundEnd.{RoundEnd}
use Rattle.jt_world.proofs.making.Making.round.Goals as goal

pub returns-clause-says : goal.returns-clause-says
returns-clause-says c = λ more whole stands.
    let k = c.args.k in
    let newest = c.args.newest in
    let tail = end_lines (round_end k) ++ more in
    c.end_round.ensures.says more whole
    (subst (λ (e : RoundEnd). Stands c.down.new.self (end_lines e ++ more) whole) (sym c.round_end.ensures)
    (c.down.ensures tail whole (c.up.ensures (down_line k ∷ tail) whole (c.say_words.ensures (up_line newest k ∷ down_line k ∷ tail) whole
    (c.fix.ensures (tick_line ∷ up_line newest k ∷ down_line k ∷ tail) whole stands)))))
