use Rattle.std.proofs.Common.{◌∙◌, ◌||◌, ap, map}
use Rattle.std.specs.Str.{bytes_eq}
use Rattle.dewfelt_fleet.specs.Names.{is_among}
use Rattle.dewfelt_fleet.proofs.NameSets.{added}
use Rattle.dewfelt_fleet.proofs.names.Names.add.Goals as goal

pub returns-clause-ok : goal.returns-clause-ok
returns-clause-ok c = λ q. ap (λ keys. is_among (map (λ k. k.items) keys) q) c.in_ok-insert.ensures.keys
    ∙ added (λ k. k.items) c.self.inside.names.keys c.in_ok-name.name q
    ∙ ap (λ name. bytes_eq name q || is_among (map (λ k. k.items) c.self.inside.names.keys) q) c.in_ok-name.ensures.items
    ∙ ap (λ names. bytes_eq c.args.name.now q || is_among names q) c.self.view_is
