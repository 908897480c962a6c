use Rattle.std.proofs.Common.{arith}
use Rattle.jt_position.proofs.FixLaws.{reads_position}
use Rattle.jt_position.proofs.fix.Fix.read.Goals as goal

pub invariant_of-result : goal.invariant_of-result
invariant_of-result c =
    let view = c.in_ok-view_position.field-0 in
    rw (c.from_vec.ensures, c.in_ok-from_slice.ensures.items) (omega (arith, c.if-octets-gt-BODY_LIMIT.false), (λ i. omega (arith, c.type_inv.octets i)), reads_position c.args.octets.now (record { fixed = view.fixed; items = view.items }) c.in_ok-view_position.ensures.position)
