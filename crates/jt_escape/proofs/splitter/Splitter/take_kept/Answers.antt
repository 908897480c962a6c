use Rattle.std.proofs.Common.{◌+◌, sym, ap, subst, List, length, take, arith}
use Rattle.jt_escape.specs.Span.{Event}
use Rattle.jt_escape.specs.Scan.{State, RunsInPlace}
use Rattle.jt_escape.proofs.Runs.{Runs-kept, Runs-onward}
use Rattle.jt_escape.proofs.Lending.{told_kept, is_kept}
use Rattle.jt_escape.proofs.splitter.Splitter.take_kept.Goals as goal

pub returns-clause-runs : goal.returns-clause-runs
returns-clause-runs c = λ before runs.
    let octets = take (c.args.taken + c.take_all-count.result.0) c.args.piece.now in
    subst (λ (events : List Event). RunsInPlace before c.take_all-count.new.self octets events)
    (sym (told_kept c.take_all-count.result.1 c.take_all-count.new.self octets c.take_all-count.ensures.content))
    (Runs-kept _ _ _ _ (Runs-onward before c.args.self.now _ c.args.piece.now c.args.taken c.take_all-count.result.0 _ runs c.take_all-count.ensures.runs))

pub returns-clause-content : goal.returns-clause-content
returns-clause-content c = λ is.
    let held = ap (λ (state : State). length state.content) c.self.view_is in
    is_kept c.take_all-count.new.self (take (c.args.taken + c.take_all-count.result.0) c.args.piece.now) (c.take_all-count.ensures.content is) (omega (arith, held, c.len.ensures.value))
