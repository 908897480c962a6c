use Rattle.std.proofs.Common.{ℕ, ◌+◌, [], take, sym, subst}
use Rattle.jt_escape.specs.Scan.{State, Runs, standing}
use Rattle.jt_escape.proofs.splitter.Splitter.keep_escape.Goals as goal

pub returns-clause-runs : goal.returns-clause-runs
returns-clause-runs c =
    let old = c.args.self.now in
    let count = c.gather_escape-taken.result in
    let octets = take count c.args.octets.now in
    let gathered = c.gather_escape-taken.new.self in
    let here : Runs old (standing gathered (gathered.place + count)) octets [] =
    subst (λ (place : ℕ). Runs old (standing gathered (place + count)) octets []) (sym c.gather_escape-taken.ensures.place) (c.gather_escape-taken.ensures.runs old.place) in
    subst (λ (state : State). Runs old (standing state (state.place + count)) octets []) (sym c.self-2.view_is) here
