use Rattle.std.proofs.Common.{sym, ◌∙◌, arith, ◌≡◌, ap, subst, Some, []}
use Rattle.jt_turn.specs.Seats.{shown, told}
use Rattle.jt_turn.specs.Rules.{takes_in, hears, joined, Hears}
use Rattle.jt_turn.proofs.Ending.{allows_join, allows_learn}
use Rattle.jt_turn.proofs.turn.Turn.join.Goals as goal

pub join_seat-requires : goal.join_seat-requires
join_seat-requires g c =
    let i = c.pass.invariant.known in
    let j = c.other.invariant.known in
    let before : c.args.pass.now ≡ shown c.pass.inside.seat.table_id i.0 = sym c.pass.view_is ∙ ap (λ m. told g.D.Desk.blank c.pass.inside.seat.table_id m.0) i.1 in
    let root : i.0.number ≡ 0 = sym (ap (λ k. k.number) before) ∙ c.requires.root in (
      ap (λ h. h.turn) c.pass.view_is ∙ (c.requires.turn.0 ∙ sym c.self.view_is),
      ap (λ h. h.turn) c.other.view_is ∙ (c.requires.turn.1 ∙ sym c.self.view_is),
      ap (λ m. m.1) j.1,
      omega (arith, c.self.invariant.0),
      rw (i.1, j.1) (allows_join g.D.Desk.history g.D.Desk.faults g.D.Desk.opening c.pass.inside.seat.id c.other.inside.seat.id i.0 j.0 root j.3 j.4),
    )

pub load-requires : goal.load-requires
load-requires g c =
    let i = c.pass.invariant.known in
    let j = c.other.invariant.known in
    let me : c.join_seat.new.seat.me ≡ (Some (takes_in i.0 j.0), []) = c.join_seat.ensures.2 ∙ (ap (λ m. (joined m.0 c.other.inside.seat.me.0, m.1)) i.1 ∙ ap (λ m. (joined (Some i.0) m.0, [])) j.1) in (
      c.join_seat.ensures.0 ∙ (ap (λ h. h.turn) c.pass.view_is ∙ (c.requires.turn.0 ∙ sym c.self.view_is)),
      omega (arith, c.self.invariant.0),
      rw (me, c.self.invariant.1) (allows_learn g.D.Desk.history g.D.Desk.faults g.D.Desk.opening c.join_seat.new.seat.id (takes_in i.0 j.0) i.4),
    )

pub invariant_of-pass : goal.invariant_of-pass
invariant_of-pass g c =
    let i = c.pass.invariant.known in
    let j = c.other.invariant.known in
    let me : c.join_seat.new.seat.me ≡ (Some (takes_in i.0 j.0), []) = c.join_seat.ensures.2 ∙ (ap (λ m. (joined m.0 c.other.inside.seat.me.0, m.1)) i.1 ∙ ap (λ m. (joined (Some i.0) m.0, [])) j.1) in
    let told = subst (λ m. Hears m.0 c.load.new.seat.me.0 × (c.load.new.seat.me.1 ≡ m.1)) me c.load.ensures.2 in
    record { known = (hears (takes_in i.0 j.0), (λ x. (told.0.0 x, told.1 x)), i.2, i.3, i.4) }
