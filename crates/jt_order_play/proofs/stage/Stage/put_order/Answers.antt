use Rattle.std.proofs.Common.{◌≡◌, [], ◌∷◌, ◌++◌, sym, subst}
use Rattle.std.proofs.lemmas.Option.{same_Some}
use Rattle.jt_order.specs.Books.{Book}
use Rattle.jt_play.specs.Holding.{past_of}
use Rattle.jt_order_octets.specs.Reaching.{Leads}
use Rattle.jt_order_octets.specs.Steps.{Issues}
use Rattle.jt_order_play.specs.Holding.{order_play_of, told_places}
use Rattle.jt_order_play.specs.Playing.{OrderPlay}
use Rattle.jt_order_play.proofs.Standing.{leads_one}
use Rattle.jt_order_play.proofs.stage.Stage.put_order.Goals as goal

pub returns-in-Ok-clause-leads : goal.returns-in-Ok-clause-leads
returns-in-Ok-clause-leads c =
    let s = c.self.inside in
    let past = past_of s.past.items in
    let told = told_places s.told.items in
    let w = (order_play_of s.terminal s.hub s.book.book s.lines.items past told s.clock).world in
    let same : c.issue.new.self.book ≡ record { issued = s.book.book.issued ++ c.args.order.now ∷ []; results = s.book.book.results } = same_Some _ _ c.in-Ok.ensures.answer.0 in
    subst (λ (p : OrderPlay). Leads p.world (order_play_of s.terminal s.hub c.issue.new.self.book s.lines.items past told s.clock).world) c.self.view_is
    (subst (λ (b : Book). Leads w (order_play_of s.terminal s.hub b s.lines.items past told s.clock).world) (sym same) (leads_one w (Issues c.args.order.now) c.body-body.ensures.order))
