use Rattle.std.proofs.Common.{sym, ◌∙◌, ◌≡◌, ap, subst}
use Rattle.std.proofs.lemmas.Option.{none-some}
use mathlib.Core.Option.{some-injective}
use Rattle.jt_turn.specs.Seats.{told}
use Rattle.jt_turn.specs.Rules.{Closes}
use Rattle.jt_turn.proofs.Views.{same_some}
use Rattle.jt_turn.proofs.Ending.{closes}
use Rattle.jt_turn.proofs.turn.Turn.close.Goals as goal

pub unreachable-requires : goal.unreachable-requires
unreachable-requires g c =
    let i = c.pass.invariant.known in
    let before = sym c.pass.view_is ∙ ap (λ m. told g.D.Desk.blank c.pass.inside.seat.table_id m.0) i.1 in
    let done = closes g.D.Desk.history g.D.Desk.faults g.D.Desk.opening c.pass.inside.seat.id i.0 _ _ (rw i.1 at c.close_with-closed.ensures.values.2) (sym (ap (λ k. k.number) before) ∙ c.requires.root) (sym (ap (λ k. k.lent) before) ∙ c.requires.joined) i.4 in
    none-some done.0 (sym c.in-None.is ∙ some-injective _ _ (sym c.take-slot.ensures.value ∙ done.1))

pub returns-clause-opening : goal.returns-clause-opening
returns-clause-opening g c =
    let i = c.pass.invariant.known in
    let before = sym c.pass.view_is ∙ ap (λ m. told g.D.Desk.blank c.pass.inside.seat.table_id m.0) i.1 in
    let done = closes g.D.Desk.history g.D.Desk.faults g.D.Desk.opening c.pass.inside.seat.id i.0 _ _ (rw i.1 at c.close_with-closed.ensures.values.2) (sym (ap (λ k. k.number) before) ∙ c.requires.root) (sym (ap (λ k. k.lent) before) ∙ c.requires.joined) i.4 in
    let same : done.0 ≡ c.in-Some.desk = same_some (sym (some-injective _ _ (sym c.take-slot.ensures.value ∙ done.1)) ∙ c.in-Some.is) in
    rw before (subst (λ d. Closes g.D.Desk.history g.D.Desk.faults g.D.Desk.opening i.0 d) same done.2).opening

pub returns-clause-seen : goal.returns-clause-seen
returns-clause-seen g c =
    let i = c.pass.invariant.known in
    let before = sym c.pass.view_is ∙ ap (λ m. told g.D.Desk.blank c.pass.inside.seat.table_id m.0) i.1 in
    let done = closes g.D.Desk.history g.D.Desk.faults g.D.Desk.opening c.pass.inside.seat.id i.0 _ _ (rw i.1 at c.close_with-closed.ensures.values.2) (sym (ap (λ k. k.number) before) ∙ c.requires.root) (sym (ap (λ k. k.lent) before) ∙ c.requires.joined) i.4 in
    let same : done.0 ≡ c.in-Some.desk = same_some (sym (some-injective _ _ (sym c.take-slot.ensures.value ∙ done.1)) ∙ c.in-Some.is) in
    rw before (subst (λ d. Closes g.D.Desk.history g.D.Desk.faults g.D.Desk.opening i.0 d) same done.2).seen

pub returns-clause-mine : goal.returns-clause-mine
returns-clause-mine g c =
    let i = c.pass.invariant.known in
    let before = sym c.pass.view_is ∙ ap (λ m. told g.D.Desk.blank c.pass.inside.seat.table_id m.0) i.1 in
    let done = closes g.D.Desk.history g.D.Desk.faults g.D.Desk.opening c.pass.inside.seat.id i.0 _ _ (rw i.1 at c.close_with-closed.ensures.values.2) (sym (ap (λ k. k.number) before) ∙ c.requires.root) (sym (ap (λ k. k.lent) before) ∙ c.requires.joined) i.4 in
    let same : done.0 ≡ c.in-Some.desk = same_some (sym (some-injective _ _ (sym c.take-slot.ensures.value ∙ done.1)) ∙ c.in-Some.is) in
    rw before (subst (λ d. Closes g.D.Desk.history g.D.Desk.faults g.D.Desk.opening i.0 d) same done.2).mine

pub returns-clause-ended : goal.returns-clause-ended
returns-clause-ended g c =
    let i = c.pass.invariant.known in
    let before = sym c.pass.view_is ∙ ap (λ m. told g.D.Desk.blank c.pass.inside.seat.table_id m.0) i.1 in
    let done = closes g.D.Desk.history g.D.Desk.faults g.D.Desk.opening c.pass.inside.seat.id i.0 _ _ (rw i.1 at c.close_with-closed.ensures.values.2) (sym (ap (λ k. k.number) before) ∙ c.requires.root) (sym (ap (λ k. k.lent) before) ∙ c.requires.joined) i.4 in
    let same : done.0 ≡ c.in-Some.desk = same_some (sym (some-injective _ _ (sym c.take-slot.ensures.value ∙ done.1)) ∙ c.in-Some.is) in
    rw before (subst (λ d. Closes g.D.Desk.history g.D.Desk.faults g.D.Desk.opening i.0 d) same done.2).ended

pub returns-clause-others : goal.returns-clause-others
returns-clause-others g c =
    let i = c.pass.invariant.known in
    let before = sym c.pass.view_is ∙ ap (λ m. told g.D.Desk.blank c.pass.inside.seat.table_id m.0) i.1 in
    let done = closes g.D.Desk.history g.D.Desk.faults g.D.Desk.opening c.pass.inside.seat.id i.0 _ _ (rw i.1 at c.close_with-closed.ensures.values.2) (sym (ap (λ k. k.number) before) ∙ c.requires.root) (sym (ap (λ k. k.lent) before) ∙ c.requires.joined) i.4 in
    let same : done.0 ≡ c.in-Some.desk = same_some (sym (some-injective _ _ (sym c.take-slot.ensures.value ∙ done.1)) ∙ c.in-Some.is) in
    rw before (subst (λ d. Closes g.D.Desk.history g.D.Desk.faults g.D.Desk.opening i.0 d) same done.2).others

pub returns-clause-faults : goal.returns-clause-faults
returns-clause-faults g c =
    let i = c.pass.invariant.known in
    let before = sym c.pass.view_is ∙ ap (λ m. told g.D.Desk.blank c.pass.inside.seat.table_id m.0) i.1 in
    let done = closes g.D.Desk.history g.D.Desk.faults g.D.Desk.opening c.pass.inside.seat.id i.0 _ _ (rw i.1 at c.close_with-closed.ensures.values.2) (sym (ap (λ k. k.number) before) ∙ c.requires.root) (sym (ap (λ k. k.lent) before) ∙ c.requires.joined) i.4 in
    let same : done.0 ≡ c.in-Some.desk = same_some (sym (some-injective _ _ (sym c.take-slot.ensures.value ∙ done.1)) ∙ c.in-Some.is) in
    rw before (subst (λ d. Closes g.D.Desk.history g.D.Desk.faults g.D.Desk.opening i.0 d) same done.2).faults

pub returns-clause-count : goal.returns-clause-count
returns-clause-count g c =
    let i = c.pass.invariant.known in
    let before = sym c.pass.view_is ∙ ap (λ m. told g.D.Desk.blank c.pass.inside.seat.table_id m.0) i.1 in
    let done = closes g.D.Desk.history g.D.Desk.faults g.D.Desk.opening c.pass.inside.seat.id i.0 _ _ (rw i.1 at c.close_with-closed.ensures.values.2) (sym (ap (λ k. k.number) before) ∙ c.requires.root) (sym (ap (λ k. k.lent) before) ∙ c.requires.joined) i.4 in
    let same : done.0 ≡ c.in-Some.desk = same_some (sym (some-injective _ _ (sym c.take-slot.ensures.value ∙ done.1)) ∙ c.in-Some.is) in
    rw before (subst (λ d. Closes g.D.Desk.history g.D.Desk.faults g.D.Desk.opening i.0 d) same done.2).count
