use Rattle.std.proofs.Common.{List, subst}
use Rattle.jt_stream.specs.Item.{Item, Items}
use Rattle.jt_stream.proofs.Judging.{items_only, items_front}
use Rattle.jt_stream.proofs.laws.law_all_items.Goals as goal

pub returns-clause-only : goal.returns-clause-only
returns-clause-only c = items_only c.law_of_contents.ensures.read_back c.law_one_list.ensures.some c.law_one_list.ensures.one

pub returns-clause-held : goal.returns-clause-held
returns-clause-held c = λ stream octets.
    let some = c.law_one_list-2.ensures.some stream octets in
    subst (λ (list : List Item). Items stream list) (items_only c.law_of_contents.ensures.read_back c.law_one_list.ensures.some c.law_one_list.ensures.one stream some.0 some.1) some.1

pub returns-clause-front : goal.returns-clause-front
returns-clause-front c = items_front c.law_one_list.ensures.some c.law_front.ensures
