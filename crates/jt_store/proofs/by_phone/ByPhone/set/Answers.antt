use Rattle.std.proofs.Common.{◌∙◌, ap, cond, Some}
use Rattle.std.specs.Str.{bytes_eq}
use Rattle.jt_store.specs.Memory.{under}
use Rattle.jt_store.proofs.Pairs.{found, updated}
use Rattle.jt_store.proofs.by_phone.ByPhone.set.Goals as goal

pub returns-clause-was : goal.returns-clause-was
returns-clause-was g c = c.in_ok-was.ensures.old ∙ found c.self.inside.values.entries c.of.result ∙ ap (λ pairs. under pairs c.of.result) c.self.view_is ∙ ap (under c.args.self.now) c.of.ensures

pub returns-clause-ok : goal.returns-clause-ok
returns-clause-ok g c = λ q. updated c.of.result c.self.inside.values c.insert.new.self (Some c.args.value) c.in_ok-was.ensures.updates q
    ∙ ap (λ pairs. cond (bytes_eq c.of.result q) (Some c.args.value) (under pairs q)) c.self.view_is
    ∙ ap (λ key. cond (bytes_eq key q) (Some c.args.value) (under c.args.self.now q)) c.of.ensures
