use Rattle.std.proofs.Common.{◌∙◌, ap}
use Rattle.jt_platform.specs.Allowed.{has_plate}
use Rattle.jt_platform.proofs.Rolls.{among}
use Rattle.jt_platform.proofs.roll.Names.has.Goals as goal

pub returns : goal.returns
returns c = c.contains.ensures ∙ among (λ k. k.items) c.self.inside.names.keys c.args.name.now ∙ ap (λ names. has_plate names c.args.name.now) c.self.view_is
