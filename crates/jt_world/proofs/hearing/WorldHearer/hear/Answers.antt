use Rattle.jt_world.proofs.Heard.{hears}
use Rattle.jt_world.proofs.hearing.WorldHearer.hear.Goals as goal

pub returns-clause-hears : goal.returns-clause-hears
returns-clause-hears c =
    hears c.law_rule.ensures.settings c.args.self.now _ c.requires.can c.args._number c.args.line.now _ _ c.requires.within c.hear_line.result
    (c.hear_line.ensures.may c.requires.can) (c.hear_line.ensures.does c.requires.can)
