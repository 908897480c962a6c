use Rattle.std.proofs.Common.{length, sym, ap, ◌∙◌}
use Rattle.jt_position.proofs.BatchViewLaws.{positions_count}
use Rattle.jt_position.proofs.batch_view.Positions.left.Goals as goal

pub returns : goal.returns
returns c =
    let at = c.self.inside.reader in
    sym (positions_count c.self.inside.left at.octets at.place c.self.invariant.0) ∙ ap length c.self.view_is
