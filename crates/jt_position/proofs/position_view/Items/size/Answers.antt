use Rattle.jt_position.proofs.ViewLaws.{items_size}
use Rattle.jt_position.proofs.position_view.Items.size.Goals as goal

pub returns-clause-size : goal.returns-clause-size
returns-clause-size c =
    let at = c.self.inside.reader in
    items_size at.octets at.place c.left.result c.args.self.now c.self.invariant.1 c.left.ensures.left c.self.invariant.0 c.self.view_is
