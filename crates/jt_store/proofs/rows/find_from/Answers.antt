use Rattle.jt_store.proofs.Rising.{copied, found_from}
use Rattle.jt_store.proofs.rows.find_from.Goals as goal

pub returns : goal.returns
returns c =
    let same = copied c.args.rows.now c.place_from.result c.get.result c.get.ensures.lookup.0 c.get.ensures.lookup.1 in
    found_from c.args.rows.now c.args.number c.place_from.result c.requires c.place_from.ensures.within c.place_from.ensures.below c.place_from.ensures.above _ same
