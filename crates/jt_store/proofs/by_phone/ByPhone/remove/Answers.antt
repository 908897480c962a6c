use Rattle.std.proofs.Common.{◌∙◌, ap, cond, None}
use Rattle.std.specs.Str.{bytes_eq}
use Rattle.jt_store.specs.Memory.{under}
use Rattle.jt_store.proofs.Pairs.{found, updated}
use Rattle.jt_store.proofs.by_phone.ByPhone.remove.Goals as goal

pub returns-clause-value : goal.returns-clause-value
returns-clause-value g c = c.remove.ensures.value ∙ found c.self.inside.values.entries c.of.result ∙ ap (λ pairs. under pairs c.of.result) c.self.view_is ∙ ap (under c.args.self.now) c.of.ensures

pub returns-clause-others : goal.returns-clause-others
returns-clause-others g c = λ q. updated c.of.result c.self.inside.values c.remove.new.self None c.remove.ensures.updates q
    ∙ ap (λ pairs. cond (bytes_eq c.of.result q) None (under pairs q)) c.self.view_is
    ∙ ap (λ key. cond (bytes_eq key q) None (under c.args.self.now q)) c.of.ensures
