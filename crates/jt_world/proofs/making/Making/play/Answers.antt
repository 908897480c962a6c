use Rattle.std.proofs.Common.{List, ℕ, [], ◌∷◌, ◌++◌, append_assoc, subst}
use Rattle.jt_world.specs.Made.{open_line, rounds_from, run_line}
use Rattle.jt_world.specs.Making.{Stands}
use Rattle.jt_world.proofs.making.Making.play.Goals as goal

pub returns : goal.returns
returns c = λ more whole stands.
    let rounds = rounds_from 0 c.args.count 1 in
    let last = open_line ∷ run_line ∷ [] in
    c.say_words-3.ensures more whole (c.say_words-2.ensures (run_line ∷ more) whole (c.rounds.ensures (open_line ∷ run_line ∷ more) whole
    (subst (λ (lines : List (List ℕ)). Stands c.say_words.new.self lines whole) (append_assoc rounds last more)
    (c.say_words.ensures ((rounds ++ last) ++ more) whole stands))))
