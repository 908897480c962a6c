use Rattle.std.proofs.Common.{sym, ◌∙◌, arith, ◌≡◌, ◌<◌, ◌^◌, refl, ap, []}
use Rattle.jt_turn.specs.Seats.{shown, told}
use Rattle.jt_turn.specs.Rules.{lends, starts, lending, starting}
use Rattle.jt_turn.proofs.Ending.{allows_split}
use Rattle.jt_turn.proofs.turn.Turn.split_as.Goals as goal

pub split_seat-requires : goal.split_seat-requires
split_seat-requires g c =
    let i = c.pass.invariant.known in
    let before : c.args.pass.now ≡ shown c.pass.inside.seat.table_id i.0 = sym c.pass.view_is ∙ ap (λ m. told g.D.Desk.blank c.pass.inside.seat.table_id m.0) i.1 in
    let root : i.0.number ≡ 0 = sym (ap (λ k. k.number) before) ∙ c.requires.root in
    let given : c.args.pass.now.given ≡ i.0.given = ap (λ k. k.given) before in
    let above : i.0.given < g.N.Number.number = omega (arith, c.requires.above, c.requires.picked, given) in
    let small : g.N.Number.number < 2 ^ 32 = omega (arith, c.ranges.number.fits, c.requires.picked) in
    (ap (λ h. h.turn) c.pass.view_is ∙ (c.requires.turn ∙ sym c.self.view_is), omega (arith, c.self.invariant.0), rw i.1 (allows_split g.D.Desk.history g.D.Desk.faults g.D.Desk.opening c.pass.inside.seat.id g.N.Number.number i.0 root above small))

pub invariant_of-pass : goal.invariant_of-pass
invariant_of-pass g c =
    let i = c.pass.invariant.known in
    record { known = (lends g.N.Number.number i.0, c.split_seat.ensures.2 ∙ ap (λ m. (lending g.N.Number.number m.0, m.1)) i.1, i.2, i.3, i.4) }

pub invariant_of-result : goal.invariant_of-result
invariant_of-result g c =
    let i = c.pass.invariant.known in
    record { known = (starts g.N.Number.number i.0, c.split_seat.ensures.4 ∙ ap (λ m. (starting g.N.Number.number m.0, [])) i.1, c.requires.picked, refl, refl) }
