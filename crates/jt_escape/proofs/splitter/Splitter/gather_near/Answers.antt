use Rattle.std.proofs.Common.{refl, ◌+◌, ℕ, length, get_or, arith, ap, sym, subst, ◌∙◌, inl, inr, [], ◌∷◌, length-append}
use Rattle.jt_escape.specs.Scan.{State, StandsAtFront}
use Rattle.jt_escape.proofs.Runs.{front_behind}
use Rattle.jt_escape.proofs.splitter.Splitter.gather_near.Goals as goal

pub loop-taken-preserved : goal.loop-taken-preserved
loop-taken-preserved c =
    let two = c.loop-taken-test.true in
    let gathered = ap (λ (state : State). length state.content) c.gather.ensures in
    let first = c.loop-taken.invariant.4 (omega (arith, two)) in
    let stands : StandsAtFront (get_or c.args.octets.now c.loop-taken.taken 0) (get_or c.args.octets.now (c.loop-taken.taken + 1) 0) c.in-Some.count c.in-Some.octet =
    subst (λ (octet : ℕ). StandsAtFront octet (get_or c.args.octets.now (c.loop-taken.taken + 1) 0) c.in-Some.count c.in-Some.octet) (sym first) c.in-Some.ensures in
    let runs = front_behind c.args.self.now c.loop-taken.self c.gather.new.self c.args.octets.now c.loop-taken.taken c.in-Some.count c.in-Some.octet
    c.loop-taken.invariant.2 (omega (arith, two, c.loop-taken.invariant.3)) (omega (arith, two)) stands c.gather.ensures c.loop-taken.invariant.5 in
    let place = ap (λ (state : State). state.place) c.gather.ensures ∙ c.loop-taken.invariant.1 in
    let mode = ap (λ (state : State). state.mode) c.gather.ensures ∙ c.loop-taken.invariant.2 in
    let longer = length-append c.loop-taken.self.content (c.in-Some.octet ∷ []) in
    let next = c.select_unpredictable-first.ensures in
    elim c.in-Some.ensures [
      | inl h ↦ (omega (arith, two, h.0), place, mode, omega (arith, gathered, longer, c.loop-taken.invariant.3, h.0), λ lt. rw (next, h.0) refl, runs)
      | inr h ↦ (omega (arith, two, h.0), place, mode, omega (arith, gathered, longer, c.loop-taken.invariant.3, h.0), λ lt. rw (next, h.0) refl, runs)
    ]
