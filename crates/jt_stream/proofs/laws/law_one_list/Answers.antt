use Rattle.jt_escape.specs.Scan.{all_events}
use Rattle.jt_stream.proofs.Judging.{one_list, items_for}
use Rattle.jt_stream.proofs.laws.law_one_list.Goals as goal

pub returns-clause-some : goal.returns-clause-some
returns-clause-some c = λ stream octets.
    let held = c.law_one_list.ensures.some stream in
    let list = items_for c.law_of_contents.ensures.one_or_the_other (all_events stream) (c.law_octets.ensures stream (all_events stream) octets held) in
    (list.0, record { events = all_events stream; held = held; each = list.1 })

pub returns-clause-one : goal.returns-clause-one
returns-clause-one c = one_list c.law_of_contents.ensures.never_both c.law_of_contents.ensures.one_content c.law_one_list.ensures.one
