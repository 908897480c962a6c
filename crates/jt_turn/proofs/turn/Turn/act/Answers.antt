use Rattle.std.proofs.Common.{true, sym, ◌∙◌, refl, ap}
use Rattle.jt_turn.specs.Seats.{told}
use Rattle.jt_turn.proofs.turn.Turn.act.Goals as goal

pub lock-requires-clause-idle : goal.lock-requires-clause-idle
lock-requires-clause-idle g c = let i = c.pass.invariant.known in (i.0, i.1)

pub draw-ticket-requires-clause-idle : goal.draw-ticket-requires-clause-idle
draw-ticket-requires-clause-idle g c = let i = c.pass.invariant.known in (i.0, c.lock.ensures.same ∙ i.1, i.3, i.4)

pub wait-requires-clause-waits : goal.wait-requires-clause-waits
wait-requires-clause-waits g c =
    let i = c.pass.invariant.known in
    let d = rw (c.lock.ensures.same ∙ i.1) at c.draw-ticket.ensures.drawn in
    record { known = (record i.0 { waits = true; ticket = d.0 }, d.2, d.1, refl, i.4) }

pub serve-answer-requires-clause-turn : goal.serve-answer-requires-clause-turn
serve-answer-requires-clause-turn g c =
    let i = c.pass.invariant.known in
    let d = rw (c.lock.ensures.same ∙ i.1) at c.draw-ticket.ensures.drawn in
    let t = rw d.2 at c.wait.ensures.took in
    (record i.0 { waits = true; ticket = d.0 }, t.0, t.1, t.2, sym i.2)

pub unlock-requires-clause-idle : goal.unlock-requires-clause-idle
unlock-requires-clause-idle g c =
    let i = c.pass.invariant.known in
    let d = rw (c.lock.ensures.same ∙ i.1) at c.draw-ticket.ensures.drawn in
    let t = rw d.2 at c.wait.ensures.took in
    let a = c.serve-answer.ensures.acted (record i.0 { waits = true; ticket = d.0 }) t.0 t.1 t.2 in
    (a.0, a.1)

pub invariant_of-pass : goal.invariant_of-pass
invariant_of-pass g c =
    let i = c.pass.invariant.known in
    let d = rw (c.lock.ensures.same ∙ i.1) at c.draw-ticket.ensures.drawn in
    let t = rw d.2 at c.wait.ensures.took in
    let a = c.serve-answer.ensures.acted (record i.0 { waits = true; ticket = d.0 }) t.0 t.1 t.2 in
    record { known = (a.0, c.unlock.ensures.same ∙ a.1, i.2 ∙ sym a.4.number, a.2, a.3) }

pub returns-clause-found : goal.returns-clause-found
returns-clause-found g c =
    let i = c.pass.invariant.known in
    let d = rw (c.lock.ensures.same ∙ i.1) at c.draw-ticket.ensures.drawn in
    let t = rw d.2 at c.wait.ensures.took in
    let a = c.serve-answer.ensures.acted (record i.0 { waits = true; ticket = d.0 }) t.0 t.1 t.2 in
    let before = sym c.pass.view_is ∙ ap (λ m. told g.D.Desk.blank c.pass.inside.seat.table_id m.0) i.1 in
    rw (before, c.unlock.ensures.same ∙ a.1) a.4.found

pub returns-clause-found_mine : goal.returns-clause-found_mine
returns-clause-found_mine g c =
    let i = c.pass.invariant.known in
    let d = rw (c.lock.ensures.same ∙ i.1) at c.draw-ticket.ensures.drawn in
    let t = rw d.2 at c.wait.ensures.took in
    let a = c.serve-answer.ensures.acted (record i.0 { waits = true; ticket = d.0 }) t.0 t.1 t.2 in
    let before = sym c.pass.view_is ∙ ap (λ m. told g.D.Desk.blank c.pass.inside.seat.table_id m.0) i.1 in
    rw (before, c.unlock.ensures.same ∙ a.1) a.4.found_mine

pub returns-clause-found_faults : goal.returns-clause-found_faults
returns-clause-found_faults g c =
    let i = c.pass.invariant.known in
    let d = rw (c.lock.ensures.same ∙ i.1) at c.draw-ticket.ensures.drawn in
    let t = rw d.2 at c.wait.ensures.took in
    let a = c.serve-answer.ensures.acted (record i.0 { waits = true; ticket = d.0 }) t.0 t.1 t.2 in
    let before = sym c.pass.view_is ∙ ap (λ m. told g.D.Desk.blank c.pass.inside.seat.table_id m.0) i.1 in
    rw (before, c.unlock.ensures.same ∙ a.1) a.4.found_faults

pub returns-clause-answer : goal.returns-clause-answer
returns-clause-answer g c =
    let i = c.pass.invariant.known in
    let d = rw (c.lock.ensures.same ∙ i.1) at c.draw-ticket.ensures.drawn in
    let t = rw d.2 at c.wait.ensures.took in
    let a = c.serve-answer.ensures.acted (record i.0 { waits = true; ticket = d.0 }) t.0 t.1 t.2 in
    let before = sym c.pass.view_is ∙ ap (λ m. told g.D.Desk.blank c.pass.inside.seat.table_id m.0) i.1 in
    rw (before, c.unlock.ensures.same ∙ a.1) a.4.answers

pub returns-clause-seen : goal.returns-clause-seen
returns-clause-seen g c =
    let i = c.pass.invariant.known in
    let d = rw (c.lock.ensures.same ∙ i.1) at c.draw-ticket.ensures.drawn in
    let t = rw d.2 at c.wait.ensures.took in
    let a = c.serve-answer.ensures.acted (record i.0 { waits = true; ticket = d.0 }) t.0 t.1 t.2 in
    let before = sym c.pass.view_is ∙ ap (λ m. told g.D.Desk.blank c.pass.inside.seat.table_id m.0) i.1 in
    rw (before, c.unlock.ensures.same ∙ a.1) a.4.seen

pub returns-clause-mine : goal.returns-clause-mine
returns-clause-mine g c =
    let i = c.pass.invariant.known in
    let d = rw (c.lock.ensures.same ∙ i.1) at c.draw-ticket.ensures.drawn in
    let t = rw d.2 at c.wait.ensures.took in
    let a = c.serve-answer.ensures.acted (record i.0 { waits = true; ticket = d.0 }) t.0 t.1 t.2 in
    let before = sym c.pass.view_is ∙ ap (λ m. told g.D.Desk.blank c.pass.inside.seat.table_id m.0) i.1 in
    rw (before, c.unlock.ensures.same ∙ a.1) a.4.mine

pub returns-clause-faults : goal.returns-clause-faults
returns-clause-faults g c =
    let i = c.pass.invariant.known in
    let d = rw (c.lock.ensures.same ∙ i.1) at c.draw-ticket.ensures.drawn in
    let t = rw d.2 at c.wait.ensures.took in
    let a = c.serve-answer.ensures.acted (record i.0 { waits = true; ticket = d.0 }) t.0 t.1 t.2 in
    rw (c.unlock.ensures.same ∙ a.1) a.4.faults

pub returns-clause-failed : goal.returns-clause-failed
returns-clause-failed g c =
    let i = c.pass.invariant.known in
    let d = rw (c.lock.ensures.same ∙ i.1) at c.draw-ticket.ensures.drawn in
    let t = rw d.2 at c.wait.ensures.took in
    let a = c.serve-answer.ensures.acted (record i.0 { waits = true; ticket = d.0 }) t.0 t.1 t.2 in
    let before = sym c.pass.view_is ∙ ap (λ m. told g.D.Desk.blank c.pass.inside.seat.table_id m.0) i.1 in
    rw (before, c.unlock.ensures.same ∙ a.1) a.4.failed

pub returns-clause-stays : goal.returns-clause-stays
returns-clause-stays g c =
    let i = c.pass.invariant.known in
    let d = rw (c.lock.ensures.same ∙ i.1) at c.draw-ticket.ensures.drawn in
    let t = rw d.2 at c.wait.ensures.took in
    let a = c.serve-answer.ensures.acted (record i.0 { waits = true; ticket = d.0 }) t.0 t.1 t.2 in
    let before = sym c.pass.view_is ∙ ap (λ m. told g.D.Desk.blank c.pass.inside.seat.table_id m.0) i.1 in
    rw (before, c.unlock.ensures.same ∙ a.1) (c.unlock.ensures.table ∙ (c.serve-answer.ensures.table ∙ (c.wait.ensures.table ∙ (c.draw-ticket.ensures.table ∙ c.lock.ensures.table))), a.4.number, a.4.opening, a.4.base, a.4.ended, a.4.lent, a.4.given)
