use Rattle.std.proofs.Common.{◌∙◌, ap}
use Rattle.jt_server.proofs.Ending.{all_served, back_alone, lent_alone, reports_alone}
use Rattle.jt_server.proofs.threads.serve_turn.Goals as goal

pub returns : goal.returns
returns g c =
    let begun = c.requires.begun in
    let items = c.into_vec.ensures ∙ c.into_seq.ensures in
    let served = c.serve_lent-lent.ensures in
    let closed = c.close-hub.ensures in
    let given = c.give_back.ensures in
    all_served g.P.Keeper.tables g.P.Keeper.limit g.P.Keeper.faults c.args.before.value c.close-hub.result _ c.args.pass c.serve_lent-lent.result.pass _ _ c.serve_lent-lent.result.links.items c.into_seq-2.result c.args.sessions _ _ _ _ _ _ c.serve_lent-lent.result.end
    (ap (λ p. p.opening) begun) (ap (λ p. p.base) begun) served.root served.up_to served.failed served.links served.count served.end
    (record { opening = closed.opening; seen = closed.seen; mine = closed.mine; ended = closed.ended; others = closed.others; faults = closed.faults; count = closed.count })
    c.history-entries.ensures.legal
    (c.into_seq-2.ensures ∙ (given.reports ∙ reports_alone _ c.into_vec.result.items c.serve_lent-lent.result.links.items _ c.requires.rooms.no_report items))
    (record { out = served.pool; coming = given.coming; back = given.back ∙ back_alone _ c.into_vec.result.items c.serve_lent-lent.result.links.items _ items; lent = given.lent ∙ lent_alone c.into_vec.result.items c.serve_lent-lent.result.links.items _ items })
    given.count
