use Rattle.std.proofs.Common.{sym, ◌∙◌}
use native.Mathlib.Omega.{arith}
use Rattle.jt_platform.proofs.Zeros.{zero_left_out, other_kept, none_kept}
use Rattle.jt_platform.proofs.trimming.without_zeros.Goals as goal
use Rattle.jt_platform.proofs.trimming.without_zeros.Goals.{then-loop-end-test+else-octets-end-eq0, else-loop-end-test}

pub loop-end-preserved : goal.loop-end-preserved
loop-end-preserved c =
    let within = c.loop-end.invariant.0 in
    (omega (arith, within), c.loop-end.invariant.1 ∙ zero_left_out c.args.octets.now c.loop-end.end c.loop-end-test.true within c.if-octets-end-eq0.true)

pub returns-clause-trimmed : goal.returns-clause-trimmed
returns-clause-trimmed c = sym (c.loop-end.invariant.1 ∙ elim c.loop-end-test.branch [
  | then-loop-end-test+else-octets-end-eq0 w ↦ other_kept c.args.octets.now c.loop-end.end w.loop-end-test.true c.loop-end.invariant.0 w.if-octets-end-eq0.false
  | else-loop-end-test w ↦ none_kept c.args.octets.now c.loop-end.end w.loop-end-test.false
])
