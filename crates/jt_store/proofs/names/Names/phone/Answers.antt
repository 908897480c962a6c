use Rattle.std.proofs.Common.{◌∙◌, ap}
use Rattle.jt_store.specs.Memory.{under}
use Rattle.jt_store.proofs.Pairs.{found_by}
use Rattle.jt_store.proofs.names.Names.phone.Goals as goal

pub returns : goal.returns
returns c = c.copied.ensures ∙ c.get.ensures.value ∙ found_by (λ k. k.items) c.self.inside.phones.entries c.args.name.now ∙ ap (λ pairs. under pairs c.args.name.now) c.self.view_is
