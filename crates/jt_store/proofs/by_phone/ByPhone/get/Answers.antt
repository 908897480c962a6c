use Rattle.std.proofs.Common.{◌∙◌, ap}
use Rattle.jt_store.specs.Memory.{under}
use Rattle.jt_store.proofs.Pairs.{found}
use Rattle.jt_store.proofs.by_phone.ByPhone.get.Goals as goal

pub returns : goal.returns
returns g c = c.get.ensures.value ∙ found c.self.inside.values.entries c.of.result ∙ ap (λ pairs. under pairs c.of.result) c.self.view_is ∙ ap (under c.args.self.now) c.of.ensures
