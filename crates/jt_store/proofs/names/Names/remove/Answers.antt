use Rattle.std.proofs.Common.{◌∙◌, ap, cond, None}
use Rattle.std.specs.Str.{bytes_eq}
use Rattle.jt_store.specs.Memory.{under}
use Rattle.jt_store.proofs.Pairs.{updated_by}
use Rattle.jt_store.proofs.names.Names.remove.Goals as goal

pub returns : goal.returns
returns c = λ q. updated_by (λ k. k.items) c.args.name.now c.self.inside.phones c.remove.new.self None c.remove.ensures.updates q
    ∙ ap (λ pairs. cond (bytes_eq c.args.name.now q) None (under pairs q)) c.self.view_is
