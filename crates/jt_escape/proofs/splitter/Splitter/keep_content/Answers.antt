use Rattle.std.proofs.Common.{◌≡◌, ℕ, ◌+◌, [], take, subst, arith}
use Rattle.jt_escape.specs.Scan.{Runs}
use Rattle.jt_escape.proofs.Runs.{Runs-onward}
use Rattle.jt_escape.proofs.splitter.Splitter.keep_content.Goals as goal

pub loop-taken-preserved : goal.loop-taken-preserved
loop-taken-preserved c = (
  omega arith,
  omega arith,
  c.keep_next-count.ensures.mode,
  Runs-onward _ c.loop-taken.self _ c.args.octets.now c.loop-taken.taken c.keep_next-count.result _ c.loop-taken.invariant.3 c.keep_next-count.ensures.runs,
)

pub returns-then-count-eq0-clause-runs : goal.returns-then-count-eq0-clause-runs
returns-then-count-eq0-clause-runs c =
    let none : c.loop-taken.taken + c.keep_next-count.result ≡ c.loop-taken.taken = omega (arith, c.if-count-eq0.true) in
    subst (λ (taken : ℕ). Runs c.args.self.now c.keep_next-count.new.self (take taken c.args.octets.now) []) none
    (Runs-onward _ c.loop-taken.self _ c.args.octets.now c.loop-taken.taken c.keep_next-count.result _ c.loop-taken.invariant.3 c.keep_next-count.ensures.runs)
