use Rattle.std.proofs.Common.{◌∙◌, ap}
use Rattle.dewfelt_fleet.specs.Names.{is_among}
use Rattle.dewfelt_fleet.proofs.NameSets.{among}
use Rattle.dewfelt_fleet.proofs.names.Names.has.Goals as goal

pub returns : goal.returns
returns c = c.contains.ensures ∙ among (λ k. k.items) c.self.inside.names.keys c.args.name.now ∙ ap (λ names. is_among names c.args.name.now) c.self.view_is
