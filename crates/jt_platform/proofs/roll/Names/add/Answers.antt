use Rattle.std.proofs.Common.{◌∙◌, ◌||◌, ap, map}
use Rattle.std.specs.Str.{bytes_eq}
use Rattle.jt_platform.specs.Allowed.{has_plate}
use Rattle.jt_platform.proofs.Rolls.{added}
use Rattle.jt_platform.proofs.roll.Names.add.Goals as goal

pub returns : goal.returns
returns c = λ q. ap (λ keys. has_plate (map (λ k. k.items) keys) q) c.in_ok-insert.ensures.keys
    ∙ added (λ k. k.items) c.self.inside.names.keys c.in_ok-name.name q
    ∙ ap (λ name. bytes_eq name q || has_plate (map (λ k. k.items) c.self.inside.names.keys) q) c.in_ok-name.ensures.items
    ∙ ap (λ names. bytes_eq c.args.name.now q || has_plate names q) c.self.view_is
