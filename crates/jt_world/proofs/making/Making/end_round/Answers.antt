use Rattle.std.proofs.Common.{◌∷◌, ◌++◌, subst}
use Rattle.jt_world.specs.Made.{end_lines, open_line}
use Rattle.jt_world.specs.Making.{Stands}
use Rattle.jt_world.specs.declared.making.RoundEnd.{RoundEnd}
use Rattle.jt_world.proofs.making.Making.end_round.Goals as goal

pub returns-in-RestartTerminal-clause-says : goal.returns-in-RestartTerminal-clause-says
returns-in-RestartTerminal-clause-says c = λ more whole stands.
    c.say_words-in-RestartTerminal-2.ensures more whole (c.say_words-in-RestartTerminal.ensures (open_line ∷ more) whole
    (subst (λ (e : RoundEnd). Stands c.args.self.now (end_lines e ++ more) whole) c.in-RestartTerminal.is stands))

pub returns-in-RestartPlatform-clause-says : goal.returns-in-RestartPlatform-clause-says
returns-in-RestartPlatform-clause-says c = λ more whole stands.
    c.say_words-in-RestartPlatform-2.ensures more whole (c.say_words-in-RestartPlatform.ensures (open_line ∷ more) whole
    (subst (λ (e : RoundEnd). Stands c.args.self.now (end_lines e ++ more) whole) c.in-RestartPlatform.is stands))
