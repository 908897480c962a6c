use Rattle.std.proofs.Common.{sym, ◌∙◌, arith, refl, ap}
use Rattle.jt_turn.specs.Rules.{taking, publishing}
use Rattle.jt_turn.proofs.Allowed.{allows_publish}
use Rattle.jt_turn.proofs.Acting.{acts_as, has_acted_as, published, same_number, seat_is}
use Rattle.jt_turn.proofs.turn.Turn.serve.Goals as goal

pub act_in_place-answer-requires-clause-desk : goal.act_in_place-answer-requires-clause-desk
act_in_place-answer-requires-clause-desk g c = let t = c.requires.turn in (t.1, ap (λ m. m.1) t.2)

pub fetch_add-requires : goal.fetch_add-requires
fetch_add-requires g c =
    let t = c.requires.turn in
    let a = c.act_in_place-answer.ensures.acted t.1 (ap (λ m. m.1) t.2) in
    let me = seat_is c.act_in_place-answer.new.seat.me _ _ (c.act_in_place-answer.ensures.view ∙ ap (λ m. m.0) t.2) a.1 in
    let acted = has_acted_as g.D.Desk.history g.D.Desk.faults g.D.Desk.opening g.D.Desk.gives g.D.Desk.enters t.0 c.args.number t.1 a.0 c.args.ask.now c.act_in_place-answer.result t.4 t.3 a.2 in
    (c.act_in_place-answer.ensures.table ∙ (c.requires.table ∙ sym c.self.view_is), omega (arith, c.self.invariant.0), rw (me, c.self.invariant.1) (allows_publish g.D.Desk.history g.D.Desk.faults g.D.Desk.opening c.act_in_place-answer.new.seat.id (taking g.D.Desk.history g.D.Desk.faults g.D.Desk.opening t.1 t.0) a.0 refl acted))

pub returns-clause-acted : goal.returns-clause-acted
returns-clause-acted g c = λ k d e met.
    let t = c.requires.turn in
    let a = c.act_in_place-answer.ensures.acted d (ap (λ m. m.1) e) in
    let me = seat_is c.act_in_place-answer.new.seat.me _ _ (c.act_in_place-answer.ensures.view ∙ ap (λ m. m.0) e) a.1 in
    let number = same_number g.D.Desk.history g.D.Desk.faults g.D.Desk.opening c.args.seat.now.me _ _ _ _ e t.2 ∙ t.4 in (
      publishing g.D.Desk.history g.D.Desk.faults g.D.Desk.opening a.0 (taking g.D.Desk.history g.D.Desk.faults g.D.Desk.opening d k),
      published g.D.Desk.history g.D.Desk.faults g.D.Desk.opening c.act_in_place-answer.new.seat.me c.fetch_add.new.seat.me _ _ me c.fetch_add.ensures.2,
      refl,
      refl,
      acts_as g.D.Desk.history g.D.Desk.faults g.D.Desk.opening g.D.Desk.gives g.D.Desk.enters k c.args.number d a.0 c.args.ask.now c.act_in_place-answer.result number met a.2,
    )
