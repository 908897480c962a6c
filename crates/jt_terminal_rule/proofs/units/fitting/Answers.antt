use Rattle.std.proofs.Common.{ap, sym, arith, length, List, ℕ}
use Rattle.std.proofs.lemmas.Option.{slice_get_within}
use Rattle.jt_terminal_rule.proofs.Measuring.{fits_one, fits_none, fits_end}
use Rattle.jt_terminal_rule.proofs.units.fitting.Goals as goal

pub returns-then-more-gt-BODY_LIMIT-clause-value : goal.returns-then-more-gt-BODY_LIMIT-clause-value
returns-then-more-gt-BODY_LIMIT-clause-value c =
    let len = ap (λ (xs : List ℕ). length xs) c.as_slice.ensures.octets in
    let lt = c.if-more-gt-BODY_LIMIT.true in
    let none = fits_none c.args.waiting.now c.loop-fix.used c.loop-fix.count (length c.as_slice.result.now) c.in-Some.fix.now (sym c.in-Some.ensures.item) len lt in
    let is = c.loop-fix.invariant.3 in
    omega (arith, none, is)

pub loop-fix-preserved : goal.loop-fix-preserved
loop-fix-preserved c =
    let len = ap (λ (xs : List ℕ). length xs) c.as_slice.ensures.octets in
    let le = c.if-more-gt-BODY_LIMIT.false in
    let one = fits_one c.args.waiting.now c.loop-fix.used c.loop-fix.count (length c.as_slice.result.now) c.in-Some.fix.now (sym c.in-Some.ensures.item) len (omega (arith, le)) in
    let is = c.loop-fix.invariant.3 in
    let low = c.loop-fix.invariant.2 in
    let within = slice_get_within c.args.waiting.now c.loop-fix.count c.in-Some.fix.now (sym c.in-Some.ensures.item) in
    (omega (arith, le), omega (arith, within), omega (arith, low), omega (arith, one, is))

pub returns-clause-value : goal.returns-clause-value
returns-clause-value c =
    let none = fits_end c.args.waiting.now c.loop-fix.used c.loop-fix.count (sym c.in_default.ensures.item) in
    let is = c.loop-fix.invariant.3 in
    omega (arith, none, is)
