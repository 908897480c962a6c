use Rattle.std.proofs.Common.{sym, subst}
use Rattle.jt_platform.specs.Index.{Indexed, Marks}
use Rattle.jt_platform.proofs.Places.{closes_by}
use Rattle.jt_platform.proofs.index.Index.close.Goals as goal

pub returns : goal.returns
returns c =
    let inside = c.self.inside in
    let mid : Indexed = record { holders = inside.holders; lives = inside.lives; closes = inside.closes } in
    closes_by c.args.self.now mid c.forget_number.new.self c.args.session (subst (λ x. Marks c.args.self.now x c.args.session) (sym c.self.view_is) c.mark.ensures) c.forget_number.ensures
