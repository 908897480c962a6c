use Rattle.std.proofs.Common.{◌∙◌, ap, cond, Some}
use Rattle.std.specs.Str.{bytes_eq}
use Rattle.jt_store.specs.Memory.{under}
use Rattle.jt_store.proofs.Pairs.{updated_by}
use Rattle.jt_store.proofs.names.Names.set.Goals as goal

pub returns-clause-ok : goal.returns-clause-ok
returns-clause-ok c = λ q. updated_by (λ k. k.items) c.in_ok-name.name.items c.self.inside.phones c.insert.new.self (Some c.args.key) c.in_ok-insert.ensures.updates q
    ∙ ap (λ pairs. cond (bytes_eq c.in_ok-name.name.items q) (Some c.args.key) (under pairs q)) c.self.view_is
    ∙ ap (λ name. cond (bytes_eq name q) (Some c.args.key) (under c.args.self.now q)) c.in_ok-name.ensures.items
